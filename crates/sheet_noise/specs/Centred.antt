-- The noise over the residues that the code holds (01, Noise; crates/scheme/specs/Noise.antt over whole numbers), and what the work slice holds.
-- Assumes nothing.
use Rattle.std.specs.Prelude.{◌≡◌, refl, List, [], ◌∷◌, map, ℕ, ◌+◌, ◌-◌, ◌*◌, ◌%◌, ◌<◌, ℤ, negsuc, ◌+ℤ◌, ◌*ℤ◌}
use Rattle.maths.specs.Vector.{at}
use Rattle.maths.specs.Integer.{residue, sum_ℤ, centre, centre_by}
use Rattle.calls.specs.Region.{region}
use Rattle.sets.specs.declared.Parameters.{Parameters}
use Rattle.sets.specs.Derived.{half_modulus_of, multiplier_count_of, error_count_of}
use Rattle.packing.specs.Dropped.{chop}
use Rattle.samplers.specs.Seeded.{multipliers_drawn}
use Rattle.scheme.specs.Encryption.{errors}
use Rattle.scheme.specs.Noise.{product_noise_of}

-- numbers below q
pub record Residues (q : ℕ) (xs : List ℕ) : Type 0 where
  pub each : (k : ℕ) → at xs k < q

-- the product of the whole numbers that residue first + l of r and residue place + l of e stand for
unfoldable pub centred_term : ℕ → List ℕ → ℕ → List ℕ → ℕ → ℕ → ℤ
centred_term h r first e place l = centre h (at r (first + l)) *ℤ centre h (at e (place + l))

-- the sum of n such products
unfoldable pub centred_correlation : ℕ → ℕ → List ℕ → ℕ → List ℕ → ℕ → ℤ
centred_correlation h n r first e place = sum_ℤ n (centred_term h r first e place)

-- the products' part of the noise at place j, of polynomial i
unfoldable pub centred_part : Parameters → List ℕ → List ℕ → ℕ → ℕ → ℤ
centred_part p r e j i = centred_correlation (half_modulus_of p) (p.k + 1) r ((p.k + 1) * i) e ((p.d + p.k) * i + j)

-- and of all of them
unfoldable pub centred_product : Parameters → List ℕ → List ℕ → ℕ → ℤ
centred_product p r e j = sum_ℤ p.t (centred_part p r e j)

-- the part of the bits dropped of a number of c2 before packing
unfoldable pub centred_dropped : Parameters → ℕ → ℤ
centred_dropped p before = centre (half_modulus_of p) ((chop p.cmp before + (p.q - before)) % p.q)

-- the noise at place j
unfoldable pub centred_noise : Parameters → List ℕ → List ℕ → ℕ → ℕ → ℤ
centred_noise p r e before j = centred_product p r e j +ℤ centred_dropped p before

-- the noise at place j of a secret seed, a sealing seed and c2 before packing
unfoldable pub drawn_noise : Parameters → List ℕ → List ℕ → List ℕ → ℕ → ℤ
drawn_noise p secret sealing before j = product_noise_of p (multipliers_drawn p sealing) (errors p secret) j +ℤ centred_dropped p (at before j)

-- the work slice begins with the errors as residues
pub record ErrorsHeld (p : Parameters) (secret work : List ℕ) : Type 0 where
  pub errors_held : region work 0 (error_count_of p) ≡ map (residue p.q) (errors p secret)

-- and after them stand the multipliers
pub record Held (p : Parameters) (secret sealing work : List ℕ) : Type 0 where
  pub errors_held : region work 0 (error_count_of p) ≡ map (residue p.q) (errors p secret)
  pub multipliers_held : region work (error_count_of p) (multiplier_count_of p) ≡ map (residue p.q) (multipliers_drawn p sealing)

-- modulo 17, 15 stands for −2, and −2 times 2 is −4
centred_term_example : centred_term 8 (15 ∷ []) 0 (2 ∷ []) 0 0 ≡ negsuc 3
unfolding centre centre_by centred_term
centred_term_example = refl
