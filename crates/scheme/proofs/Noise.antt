-- What is opened is the noise plus h times the message bit, modulo q.
-- Assumes nothing.
use mathlib.Core.Path.{◌≡◌, sym, ◌∙◌}
use mathlib.Core.List.{List}
use Prim.Native.Nat.{ℕ, ◌+◌, ◌-◌, ◌*◌, ◌%◌, ◌^◌, ◌≤◌, ◌<◌}
use native.Mathlib.Nat.{mod-lt}
use native.Mathlib.Omega.{arith}
use lib.IntN.{ℤ, pos, neg_ℤ}
use lib.ListN.{length, get_or}
use Rattle.maths.specs.Vector.{at}
use Rattle.maths.specs.Sum.{sum}
use Rattle.maths.specs.Congruence.{Mod}
use Rattle.maths.specs.Product.{correlation}
use Rattle.maths.specs.Integer.{residue, correlation_ℤ}
use Rattle.maths.proofs.Congruence.{mod_refl, mod_eq, mod_sym, mod_trans, mod_add, mod_mul, mod_sum, mod_remainder, mod_add_multiple, mod_add_cancel}
use Rattle.maths.proofs.Cancelling.{exchanged}
use Rattle.maths.proofs.Integer.{nat_abs_neg_ℤ, residue-+ℤ, residue-*ℤ, residue_neg_ℤ, residue_low, residue_sum_ℤ, residue_centre, centre_residue}
use Rattle.calls.specs.Region.{vector}
use Rattle.sets.specs.declared.Parameters.{Parameters}
use Rattle.sets.specs.Derived.{half_modulus_of}
use Rattle.packing.proofs.Laws.{chop_dropped, dropped_below}
use Rattle.samplers.specs.Seeded.{multipliers_drawn}
use Rattle.ntt_products.specs.Stored.{recovered}
use Rattle.scheme.specs.Encryption.{secret_seed, public_seed, secret, public_polynomial, errors, residue_vector, public_key, key_polynomial, multiplier_vector}
use Rattle.scheme.specs.Encryption.{first_numbers, encrypted_numbers, ciphertext, cipher_first, cipher_second, decrypted_number}
use Rattle.scheme.specs.Noise.{product_noise_of, dropped_noise_of, noise}
use Rattle.scheme.specs.Dropped.{packing_noise}
use Rattle.scheme.specs.Conditions.{Conditions}
use Rattle.scheme.specs.Bits.{message_bit}
use Rattle.scheme.proofs.Conditions.{positive}
use Rattle.scheme.proofs.Places.{residue_vector_at, multiplier_vector_past, public_polynomial_past, public_vector_at, first_numbers_at, encrypted_numbers_at}
use Rattle.scheme.proofs.Bytes.{key_seed_back, key_polynomial_back, first_numbers_back, encrypted_numbers_below, second_at}

-- the residue of a correlation of whole numbers
correlation_ℤ_residue : (q n : ℕ) (x y : List ℤ) (j : ℕ) → 0 < q
    → Mod q (residue q (correlation_ℤ n x y j)) (sum n (λ l. residue q (get_or x l (pos 0)) * residue q (get_or y (j + l) (pos 0))))
unfolding correlation_ℤ
correlation_ℤ_residue q n x y j h =
    mod_trans (mod_eq (residue_sum_ℤ q n _ h))
    (mod_trans (mod_remainder q _) (mod_sum n _ _ (λ l k. mod_trans (mod_eq (residue-*ℤ q (get_or x l (pos 0)) (get_or y (j + l) (pos 0)) h))
    (mod_remainder q _))))

-- a correlation of vectors of whole numbers, as residues
correlation_residues : (p : Parameters) (r e : List ℤ) (i j : ℕ) → 0 < p.q → j < p.d
    → Mod p.q (residue p.q (correlation_ℤ (p.k + 1) (vector (p.k + 1) r i) (vector (p.d + p.k) e i) j))
    (correlation (p.k + 1) (at (residue_vector p (p.k + 1) r i)) (at (residue_vector p (p.d + p.k) e i)) j)
unfolding correlation
correlation_residues p r e i j h inside =
    mod_trans (correlation_ℤ_residue p.q (p.k + 1) _ _ j h)
    (mod_sum (p.k + 1) _ _ (λ l k. mod_mul (mod_eq (sym (residue_vector_at p (p.k + 1) r i l k)))
    (mod_eq (sym (residue_vector_at p (p.d + p.k) e i (j + l) (omega arith))))))

-- the residue of the products' part of the noise
product_noise_residue : (p : Parameters) (r e : List ℤ) (j : ℕ) → 0 < p.q → j < p.d
    → Mod p.q (residue p.q (product_noise_of p r e j)) (sum p.t
    (λ i. correlation (p.k + 1) (at (residue_vector p (p.k + 1) r i)) (at (residue_vector p (p.d + p.k) e i)) j))
unfolding product_noise_of
product_noise_residue p r e j h inside =
    mod_trans (mod_eq (residue_sum_ℤ p.q p.t _ h))
    (mod_trans (mod_remainder p.q _) (mod_sum p.t _ _ (λ i k. correlation_residues p r e i j h inside)))

-- a difference modulo q, and what was taken away
mod_difference : (q a x : ℕ) → x ≤ q → Mod q ((a + (q - x)) % q + x) a
mod_difference q a x h =
    let whole : a + (q - x) + x ≡ a + 1 * q = omega arith in
    mod_trans (mod_add (mod_remainder q (a + (q - x))) (mod_refl x)) (mod_trans (mod_eq whole) (mod_add_multiple q a 1))

-- the part of the bits dropped, and the number before packing, make the number recovered
dropped_noise_residue : (p : Parameters) (unpacked before : List ℕ) (j : ℕ) → p.q ≡ 2 * half_modulus_of p + 1 → at before j ≤ p.q
    → Mod p.q (residue p.q (dropped_noise_of p unpacked before j) + at before j) (at unpacked j)
unfolding dropped_noise_of
dropped_noise_residue p unpacked before j odd h =
    let w : ℕ = (at unpacked j + (p.q - at before j)) % p.q in
    let same : residue p.q (dropped_noise_of p unpacked before j) ≡ w = residue_centre (half_modulus_of p) p.q w odd (mod-lt _ (omega arith)) in
    mod_trans (mod_add (mod_eq same) (mod_refl _)) (mod_difference p.q (at unpacked j) (at before j) h)

-- the part of the bits dropped is −y, where the number recovered is y below the number before packing
dropped_noise_lem : (p : Parameters) (unpacked before : List ℕ) (j y : ℕ) → p.q ≡ 2 * half_modulus_of p + 1 → y ≤ half_modulus_of p → at before j < p.q
    → at unpacked j + y ≡ at before j
    → dropped_noise_of p unpacked before j ≡ neg_ℤ (pos y)
unfolding dropped_noise_of
dropped_noise_lem p unpacked before j y odd small below parts =
    let lost : at unpacked j + (p.q - at before j) ≡ p.q - y = omega arith in
    let same : residue p.q (neg_ℤ (pos y)) ≡ (p.q - y) % p.q = residue_neg_ℤ p.q (pos y) (omega arith) ∙ rw (residue_low p.q y (omega arith)) in
    rw (lost, ← same) (centre_residue (half_modulus_of p) p.q (neg_ℤ (pos y)) odd (rw nat_abs_neg_ℤ small))

-- what packing drops of d residues at a place is minus their low cmp bits
pub packing_noise_is : {p : Parameters} → Conditions p → (c2 : List ℕ) → length c2 ≡ p.d → ((j : ℕ) → at c2 j < p.q) → (j : ℕ) → j < p.d
    → packing_noise p c2 j ≡ neg_ℤ (pos (at c2 j % 2 ^ p.cmp))
unfolding packing_noise
packing_noise_is {p} c c2 size below j inside =
    dropped_noise_lem p _ c2 j (at c2 j % 2 ^ p.cmp) c.rules.odd (omega (arith, dropped_below p.cmp (at c2 j), c.rules.dropped)) (below j)
    (rw (second_at c c2 size below j inside) (chop_dropped p.cmp (at c2 j)))

-- what is opened, and the correlation of c1' with s, make the number of c2
decrypted_number_mod : (p : Parameters) (seedsk ct : List ℕ) (j : ℕ) → 0 < p.q
    → Mod p.q (decrypted_number p seedsk ct j + correlation (p.n + p.k) (at (recovered p 2 (p.n + p.k) (cipher_first p ct))) (at (secret p seedsk)) j)
    (at (cipher_second p ct) j)
unfolding decrypted_number
decrypted_number_mod p seedsk ct j h =
    let x : ℕ = correlation (p.n + p.k) (at (recovered p 2 (p.n + p.k) (cipher_first p ct))) (at (secret p seedsk)) j in
    mod_trans (mod_add (mod_refl _) (mod_sym (mod_remainder p.q x)))
    (mod_difference p.q (at (cipher_second p ct) j) (x % p.q) (omega (arith, mod-lt x h)))

-- s cancels, over variables: o is opened, x the correlation of c1' with s, c the number of c2 and b that of c2', f the residue of the products' part of the
-- noise, w that of the part dropped
cancelled : (q o x c b f w m noise : ℕ) → Mod q (o + x) c → Mod q (w + b) c → Mod q b (x + f + m) → Mod q noise (f + w) → Mod q o (noise + m)
cancelled q o x c b f w m noise opened dropped sealed parts =
    let order : w + (x + f + m) ≡ f + w + m + x = omega arith in
    mod_add_cancel x (mod_trans opened (mod_trans (mod_sym dropped) (mod_trans (mod_add (mod_refl w) sealed) (mod_trans (mod_eq order)
    (mod_add (mod_add (mod_sym parts) (mod_refl m)) (mod_refl x))))))

module _ {p : Parameters} (c : Conditions p) (seed message seedr : List ℕ) (j : ℕ) (inside : j < p.d) where
  -- c2' is the correlation of c1' with s, plus those of r_i with e_i, plus h times the message bit
  sealed_sums : Mod p.q (at (encrypted_numbers p (public_key p seed) message seedr) j)
      (correlation (p.n + p.k) (at (first_numbers p (multiplier_vector p seedr) (public_polynomial p (public_seed p seed))))
      (at (secret p (secret_seed p seed))) j
      + sum p.t (λ i. correlation (p.k + 1) (at (multiplier_vector p seedr i)) (at (residue_vector p (p.d + p.k) (errors p (secret_seed p seed)) i)) j)
      + half_modulus_of p * message_bit p message j)
  sealed_sums =
      let r : ℕ → List ℕ = multiplier_vector p seedr in
      let a : ℕ → List ℕ = public_polynomial p (public_seed p seed) in
      let e : ℕ → List ℕ = residue_vector p (p.d + p.k) (errors p (secret_seed p seed)) in
      rw (encrypted_numbers_at p (public_key p seed) message seedr j inside)
      (mod_trans (mod_remainder p.q _) (mod_add
      (exchanged p.q (p.k + 1) p.n (p.n + p.k) p.t r a (λ i. at (key_polynomial p (public_key p seed) i)) (λ i. at (e i))
      (at (secret p (secret_seed p seed))) (at (first_numbers p r a)) j
      (λ i l h k. multiplier_vector_past p seedr i l k) (λ i l h k. public_polynomial_past p (public_seed p seed) i l k) (omega arith)
      (λ i l h k. rw (key_polynomial_back c seed i h, public_vector_at p (secret_seed p seed) (public_seed p seed) i (j + l) (omega arith))
      (mod_remainder p.q _))
      (λ l k. rw (first_numbers_at p r a l k) (mod_remainder p.q _)))
      (mod_refl _)))

  -- the residue of the noise, by its two parts
  noise_parts : Mod p.q (residue p.q (noise p seed message seedr j))
      (sum p.t (λ i. correlation (p.k + 1) (at (multiplier_vector p seedr i)) (at (residue_vector p (p.d + p.k) (errors p (secret_seed p seed)) i)) j)
      + residue p.q (dropped_noise_of p (cipher_second p (ciphertext p (public_key p seed) message seedr))
      (encrypted_numbers p (public_key p seed) message seedr)
      j))
  unfolding noise multiplier_vector
  noise_parts =
      mod_trans (mod_eq (residue-+ℤ p.q _ _ (positive c)))
      (mod_trans (mod_remainder p.q _) (mod_add (product_noise_residue p (multipliers_drawn p seedr) (errors p (secret_seed p seed)) j (positive c) inside)
      (mod_refl _)))

  -- place j of c' is the noise plus h times the message bit
  pub noisy : Mod p.q (decrypted_number p (secret_seed p seed) (ciphertext p (public_key p seed) message seedr) j)
      (residue p.q (noise p seed message seedr j) + half_modulus_of p * message_bit p message j)
  noisy =
      let pk : List ℕ = public_key p seed in
      let ct : List ℕ = ciphertext p pk message seedr in
      cancelled p.q _ _ _ _ _ _ _ _
      (rw (first_numbers_back c pk message seedr, key_seed_back c seed) at (decrypted_number_mod p (secret_seed p seed) ct j (positive c)))
      (dropped_noise_residue p (cipher_second p ct) (encrypted_numbers p pk message seedr) j c.rules.odd
      (omega (arith, encrypted_numbers_below c pk message seedr j)))
      sealed_sums noise_parts
