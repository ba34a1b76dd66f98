-- The open call of the middle product: what it answers and leaves (01, How each call answers).
-- Assumes nothing.
use Rattle.std.specs.Prelude.{Bool, not, List, [], ◌∷◌, ◌++◌, ℕ, ◌+◌, ◌-◌, leb, eqb, length}
use Rattle.maths.specs.Product.{middle_product_of}
use Rattle.calls.specs.Outcome.{Outcome, accepted, refuse, leaves}
use Rattle.calls.specs.Checks.{all_of, refuse_first, below}
use Rattle.sets.specs.Table.{set_of, no_set}

-- the lengths of a middle product of a and b with d results
abbrev pub middle_shape : ℕ → ℕ → ℕ → List Bool
middle_shape a b d = leb 1 a ∷ leb 1 d ∷ leb a 4096 ∷ leb b 4096 ∷ leb d 4096 ∷ eqb b (a + d - 1) ∷ []

unfoldable pub middle_answer : ℕ → List ℕ → List ℕ → ℕ → Outcome
middle_answer set a b d =
    refuse (no_set set) 1 0
    (refuse (not (all_of (middle_shape (length a) (length b) d))) 6 0
    (refuse_first (below (set_of set).q) 0 0 (a ++ b) accepted))

unfoldable pub middle_left : ℕ → List ℕ → List ℕ → List ℕ → List ℕ
middle_left set a b out = leaves (middle_answer set a b (length out)) (middle_product_of (set_of set).q a b (length out)) out
