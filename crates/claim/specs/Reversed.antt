-- 003's multipliers beside 01's: each r_i reversed (003 writes Rev(r_i) ⊙ y where 01 has the middle product of r_i and y).
-- Assumes nothing.
use Rattle.std.specs.Prelude.{◌≡◌, refl, List, [], ◌∷◌, reverse, ℕ, ℤ, pos, negsuc}
use Rattle.calls.specs.Region.{region, vector, joined}

-- t vectors of n numbers one after the other, each of them reversed
unfoldable pub reversed_vectors : ℕ → ℕ → List ℤ → List ℤ
reversed_vectors t n r = joined t (λ i. reverse (vector n r i))

reversed_vectors_example : reversed_vectors 2 2 (pos 1 ∷ negsuc 1 ∷ pos 3 ∷ pos 4 ∷ []) ≡ negsuc 1 ∷ pos 1 ∷ pos 4 ∷ pos 3 ∷ []
unfolding reversed_vectors joined region
reversed_vectors_example = refl
