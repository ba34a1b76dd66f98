-- The open call of the transformed middle product: what it answers and leaves (01, How each call answers).
-- Assumes nothing.
use Rattle.std.specs.Prelude.{◌≡◌, refl, List, [], ◌∷◌, ◌++◌, ℕ, length, replicate}
use Rattle.maths.specs.Product.{middle_product_of}
use Rattle.calls.specs.Outcome.{Outcome, accepted, refused, leaves}
use Rattle.calls.specs.Checks.{all_of, refuse_first, below}
use Rattle.sets.specs.Table.{table, set_of}
use Rattle.ntt_middle_checks.specs.Checks.{lengths_checked_of}

-- the check of the numbers, their places counted through a, then b
unfoldable pub numbers_checked_of : ℕ → List ℕ → List ℕ → Outcome
numbers_checked_of q a b = refuse_first (below q) 0 0 (a ++ b) accepted

-- what the call answers
unfoldable pub transformed_answer : ℕ → List ℕ → List ℕ → ℕ → ℕ → Outcome
transformed_answer set a b d work = lengths_checked_of set (length a) (length b) d work (numbers_checked_of (set_of set).q a b)

-- what it leaves in the output
unfoldable pub transformed_left : ℕ → List ℕ → List ℕ → List ℕ → ℕ → List ℕ
transformed_left set a b out work = leaves (transformed_answer set a b (length out) work) (middle_product_of (set_of set).q a b (length out)) out

-- what it leaves in the work slice: all zero once the set and the lengths are checked, else as it was
unfoldable pub middle_work_left : ℕ → ℕ → ℕ → ℕ → List ℕ → List ℕ
middle_work_left set a b d work = leaves (lengths_checked_of set a b d (length work) accepted) (replicate (length work) 0) work

-- set 0 has room for 4 numbers of b: 5 of them fit a and the result, and not the transform
transformed_answer_example : transformed_answer 0 (3 ∷ 5 ∷ []) (1 ∷ 2 ∷ 3 ∷ 4 ∷ 17 ∷ []) 4 4 ≡ refused 7 0
unfolding transformed_answer lengths_checked_of all_of set_of table
transformed_answer_example = refl
