-- Five rows or lanes, each by its place.
-- Assumes nothing.
use mathlib.Core.Path.{◌≡◌}
use mathlib.Core.List.{List, [], ◌∷◌}
use Prim.Native.Nat.{ℕ, ◌<◌}
use native.Mathlib.Omega.{arith}
use lib.ListN.{length, get_or}
use Rattle.keccak.specs.Lane.{five}

-- a list of five, each of which is known
pub five_made : {T : Type 0} (ys : List T) (e : T) (f : ℕ → T) → length ys ≡ 5 → ((i : ℕ) → i < 5 → get_or ys i e ≡ f i) → ys ≡ five f
five_made [] e f h each = absurd (omega arith)
five_made (x₀ ∷ []) e f h each = absurd (omega arith)
five_made (x₀ ∷ x₁ ∷ []) e f h each = absurd (omega arith)
five_made (x₀ ∷ x₁ ∷ x₂ ∷ []) e f h each = absurd (omega arith)
five_made (x₀ ∷ x₁ ∷ x₂ ∷ x₃ ∷ []) e f h each = absurd (omega arith)
five_made (x₀ ∷ x₁ ∷ x₂ ∷ x₃ ∷ x₄ ∷ []) e f h each =
    λ i. each 0 (omega arith) i ∷ each 1 (omega arith) i ∷ each 2 (omega arith) i ∷ each 3 (omega arith) i ∷ each 4 (omega arith) i ∷ []
five_made (x₀ ∷ x₁ ∷ x₂ ∷ x₃ ∷ x₄ ∷ x₅ ∷ xs) e f h each = absurd (omega arith)
