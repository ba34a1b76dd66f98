-- The noise of the scheme's products is 01's noise on numbers: the sum over i of the middle product of r_i and e_i, with each r_i of 003 reversed.
-- Assumes nothing.
use mathlib.Core.Path.{◌≡◌, sym, ap, ◌∙◌}
use mathlib.Core.List.{List, reverse}
use Prim.Native.Nat.{ℕ, ◌+◌, ◌-◌, ◌<◌}
use native.Mathlib.Omega.{arith}
use lib.IntN.{ℤ, ◌+ℤ◌}
use lib.ListN.{length, length-reverse}
use Rattle.maths.specs.Integer.{product_ℤ, correlation_ℤ}
use Rattle.maths.proofs.Integer.{sum_ℤ_cong}
use Rattle.maths.proofs.Reverse.{correlation_ℤ_middle}
use Rattle.calls.specs.Region.{vector}
use Rattle.calls.proofs.Region.{vector_length_lem, vector_joined}
use Rattle.sets.specs.declared.Parameters.{Parameters}
use Rattle.sets.specs.Derived.{multiplier_count_of}
use Rattle.numbers.specs.Noise.{numbers_noise}
use Rattle.samplers.specs.Seeded.{multipliers_drawn}
use Rattle.samplers.proofs.Laws.{multipliers_drawn_length}
use Rattle.scheme.specs.Encryption.{secret_seed, public_key, errors, encrypted_numbers, ciphertext, cipher_second}
use Rattle.scheme.specs.Noise.{product_noise_of, dropped_noise_of, noise}
use Rattle.claim.specs.Reversed.{reversed_vectors}

module _ (p : Parameters) (r e : List ℤ) (size : length r ≡ multiplier_count_of p) where
  -- vector i has k + 1 numbers
  vector_size : (i : ℕ) → i < p.t → length (vector (p.k + 1) r i) ≡ p.k + 1
  unfolding multiplier_count_of
  vector_size i h = vector_length_lem (p.k + 1) p.t i r size h

  -- vector i of the reversed multipliers
  reversed_at : (i : ℕ) → i < p.t → vector (p.k + 1) (reversed_vectors p.t (p.k + 1) r) i ≡ reverse (vector (p.k + 1) r i)
  unfolding reversed_vectors
  reversed_at i h =
      vector_joined (p.k + 1) p.t (λ i. reverse (vector (p.k + 1) r i)) (λ l inside. length-reverse (vector (p.k + 1) r l) ∙ vector_size l inside) i h

  -- one vector
  middle : (i j : ℕ) → i < p.t
      → correlation_ℤ (p.k + 1) (vector (p.k + 1) r i) (vector (p.d + p.k) e i) j
      ≡ product_ℤ (vector (p.k + 1) (reversed_vectors p.t (p.k + 1) r) i) (vector (p.d + p.k) e i) (p.k + j)
  middle i j h =
      let x : List ℤ = vector (p.k + 1) r i in
      let y : List ℤ = vector (p.d + p.k) e i in
      let many : length x ≡ p.k + 1 = vector_size i h in
      let place : length x - 1 + j ≡ p.k + j = omega arith in
      ap (λ (n : ℕ). correlation_ℤ n x y j) (sym many)
      ∙ correlation_ℤ_middle x y j (omega arith)
      ∙ ap (product_ℤ (reverse x) y) place
      ∙ ap (λ (z : List ℤ). product_ℤ z y (p.k + j)) (sym (reversed_at i h))

  -- the two noises
  pub same_noise : (j : ℕ) → product_noise_of p r e j ≡ numbers_noise p e (reversed_vectors p.t (p.k + 1) r) j
  unfolding product_noise_of numbers_noise
  same_noise j = sum_ℤ_cong p.t _ _ (λ i h. middle i j h)

-- the whole noise of a sealing: 01's noise on the drawn errors and multipliers, each r_i reversed, plus the part of the bits dropped
pub noise_on_numbers : (p : Parameters) (seed message seedr : List ℕ) (j : ℕ)
    → noise p seed message seedr j
    ≡ numbers_noise p (errors p (secret_seed p seed)) (reversed_vectors p.t (p.k + 1) (multipliers_drawn p seedr)) j
    +ℤ dropped_noise_of p (cipher_second p (ciphertext p (public_key p seed) message seedr)) (encrypted_numbers p (public_key p seed) message seedr) j
unfolding noise multiplier_count_of
noise_on_numbers p seed message seedr j =
    ap (λ (z : ℤ). z +ℤ dropped_noise_of p (cipher_second p (ciphertext p (public_key p seed) message seedr))
    (encrypted_numbers p (public_key p seed) message seedr) j)
    (same_noise p (multipliers_drawn p seedr) (errors p (secret_seed p seed)) (multipliers_drawn_length p seedr) j)
