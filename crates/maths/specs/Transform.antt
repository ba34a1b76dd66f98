-- The number theoretic transform and the order in which 003 stores it (003 section 3.2, NTT'; algorithms 15 and 16, Perm and InvPerm, read as
-- docs/DECISIONS.md says).
-- Assumes nothing.
use Rattle.std.specs.Prelude.{◌≡◌, refl, List, [], ◌∷◌, ℕ, ◌+◌, ◌*◌, ◌/◌, ◌%◌, ◌^◌}
use Rattle.maths.specs.Vector.{at, tabulate}
use Rattle.maths.specs.Sum.{sum}

-- value i of the transform of size D of x with root w: the sum of x_j · w^(i · j), exact
unfoldable pub transform_at : ℕ → ℕ → (ℕ → ℕ) → ℕ → ℕ
transform_at D w x i = sum D (λ j. x j * w ^ (i * j))

-- the transform of size D with root w, modulo q (003: NTT'_D (w, xs))
unfoldable pub transform : ℕ → ℕ → ℕ → List ℕ → List ℕ
transform q D w xs = tabulate D (λ i. transform_at D w (at xs) i % q)

-- the transform divided by its size, e being the inverse of D (003: NTT'⁻¹_D (w, xs)); the inverse transform takes for w the inverse of the root
unfoldable pub scaled_transform : ℕ → ℕ → ℕ → ℕ → List ℕ → List ℕ
scaled_transform q D w e xs = tabulate D (λ i. e * transform_at D w (at xs) i % q)

-- the order of 003: place ρ · r + c of a stored vector of size δ · ρ is value r + δ · c; ρ is 256 in sets 1 to 12, and 1, which changes nothing, in set 0
unfoldable pub perm : ℕ → ℕ → List ℕ → List ℕ
perm ρ δ xs = tabulate (δ * ρ) (λ i. at xs (i % ρ * δ + i / ρ))

-- and back: value i stands at place ρ · (i mod δ) + i div δ
unfoldable pub inv_perm : ℕ → ℕ → List ℕ → List ℕ
inv_perm ρ δ xs = tabulate (δ * ρ) (λ i. at xs (i % δ * ρ + i / δ))

-- a vector as 003 stores it: padded to size δ · ρ, transformed with root w, in the order of Perm
unfoldable pub send : ℕ → ℕ → ℕ → ℕ → List ℕ → List ℕ
send q ρ δ w xs = perm ρ δ (transform q (δ * ρ) w xs)

-- the first m numbers of a stored vector: InvPerm, the scaled transform with root w, Trunc
unfoldable pub recover : ℕ → ℕ → ℕ → ℕ → ℕ → ℕ → List ℕ → List ℕ
recover q ρ δ w e m xs = tabulate m (at (scaled_transform q (δ * ρ) w e (inv_perm ρ δ xs)))

-- bench figure 6
transform_example : transform 17 4 4 (1 ∷ 2 ∷ 3 ∷ 4 ∷ []) ≡ 10 ∷ 7 ∷ 15 ∷ 6 ∷ []
unfolding transform transform_at sum tabulate
transform_example = refl

-- 13 is the inverse of 4 modulo 17, as root and as size
inverse_example : scaled_transform 17 4 13 13 (10 ∷ 7 ∷ 15 ∷ 6 ∷ []) ≡ 1 ∷ 2 ∷ 3 ∷ 4 ∷ []
unfolding scaled_transform transform_at sum tabulate
inverse_example = refl

perm_example : perm 2 3 (10 ∷ 11 ∷ 12 ∷ 13 ∷ 14 ∷ 15 ∷ []) ≡ 10 ∷ 13 ∷ 11 ∷ 14 ∷ 12 ∷ 15 ∷ []
unfolding perm tabulate
perm_example = refl

inv_perm_example : inv_perm 2 3 (10 ∷ 13 ∷ 11 ∷ 14 ∷ 12 ∷ 15 ∷ []) ≡ 10 ∷ 11 ∷ 12 ∷ 13 ∷ 14 ∷ 15 ∷ []
unfolding inv_perm tabulate
inv_perm_example = refl

recover_example : recover 17 2 2 13 13 3 (send 17 2 2 4 (5 ∷ 6 ∷ 7 ∷ [])) ≡ 5 ∷ 6 ∷ 7 ∷ []
unfolding recover send perm inv_perm transform scaled_transform transform_at sum tabulate
recover_example = refl
