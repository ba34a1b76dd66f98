-- The noise at a place, from the two seeds and the message (01, Noise and What demand 3 speaks of): an exact whole number, not taken modulo q.
-- Assumes nothing.
use Rattle.std.specs.Prelude.{◌≡◌, refl, List, [], ◌∷◌, ℕ, ◌+◌, ◌-◌, ◌%◌, ℤ, pos, negsuc, ◌+ℤ◌}
use Rattle.maths.specs.Vector.{at}
use Rattle.maths.specs.Integer.{sum_ℤ, correlation_ℤ, centre, centre_by}
use Rattle.calls.specs.Region.{region, vector}
use Rattle.sets.specs.declared.Parameters.{Parameters}
use Rattle.sets.specs.Table.{table, set_of}
use Rattle.sets.specs.Derived.{half_modulus_of}
use Rattle.samplers.specs.Seeded.{multipliers_drawn}
use Rattle.scheme.specs.Encryption.{secret_seed, public_key, errors, encrypted_numbers, ciphertext, cipher_second}

-- the products' part: the sum over i of Rev(r_i) ⊙ e_i
unfoldable pub product_noise_of : Parameters → List ℤ → List ℤ → ℕ → ℤ
product_noise_of p r e j = sum_ℤ p.t (λ i. correlation_ℤ (p.k + 1) (vector (p.k + 1) r i) (vector (p.d + p.k) e i) j)

-- the part of the bits dropped: the whole number from −h to h congruent to unpacked c2 minus c2 before packing
unfoldable pub dropped_noise_of : Parameters → List ℕ → List ℕ → ℕ → ℤ
dropped_noise_of p unpacked before j = centre (half_modulus_of p) ((at unpacked j + (p.q - at before j)) % p.q)

-- the noise at place j of a key seed, a message and a sealing seed
unfoldable pub noise : Parameters → List ℕ → List ℕ → List ℕ → ℕ → ℤ
noise p seed message seedr j =
    let pk = public_key p seed in
    product_noise_of p (multipliers_drawn p seedr) (errors p (secret_seed p seed)) j
    +ℤ dropped_noise_of p (cipher_second p (ciphertext p pk message seedr)) (encrypted_numbers p pk message seedr) j

-- the noise of 01's bench sheet, whose r is 1, −2 and here reversed
product_noise_example : product_noise_of (set_of 0) (negsuc 1 ∷ pos 1 ∷ []) (pos 1 ∷ pos 0 ∷ negsuc 0 ∷ []) 0 ≡ negsuc 1
unfolding table set_of region sum_ℤ correlation_ℤ product_noise_of
product_noise_example = refl

product_noise_example₂ : product_noise_of (set_of 0) (negsuc 1 ∷ pos 1 ∷ []) (pos 1 ∷ pos 0 ∷ negsuc 0 ∷ []) 1 ≡ negsuc 0
unfolding table set_of region sum_ℤ correlation_ℤ product_noise_of
product_noise_example₂ = refl

-- 12 for 15 is −3
dropped_noise_example : dropped_noise_of (set_of 0) (12 ∷ []) (15 ∷ []) 0 ≡ negsuc 2
unfolding table set_of half_modulus_of centre centre_by dropped_noise_of
dropped_noise_example = refl
