-- The value at a place, and the length, of what 003's algorithms 1 to 3 define.
-- Assumes nothing.
use mathlib.Core.Path.{◌≡◌, sym, ap, ◌∙◌}
use mathlib.Core.List.{List, map}
use Prim.Native.Nat.{ℕ, ◌+◌, ◌*◌, ◌%◌, ◌≤◌, ◌<◌}
use native.Mathlib.Nat.{zero-mod, mod-lt}
use native.Mathlib.Decide.{dec_lt}
use native.Mathlib.Omega.{arith}
use lib.IntN.{ℤ, pos}
use lib.ListN.{length, get_or, length-take, get_or-map}
use Rattle.maths.specs.Vector.{at}
use Rattle.maths.specs.Sum.{sum}
use Rattle.maths.specs.Product.{product, correlation}
use Rattle.maths.specs.Integer.{residue}
use Rattle.maths.specs.Rounding.{centred_bit}
use Rattle.maths.proofs.Vector.{at_past, tabulate_length, tabulate_at}
use Rattle.maths.proofs.Integer.{residue_pos}
use Rattle.calls.specs.Region.{region, vector}
use Rattle.calls.proofs.Region.{region_entry}
use Rattle.sets.specs.declared.Parameters.{Parameters}
use Rattle.sets.specs.Derived.{half_modulus_of}
use Rattle.packing.specs.Digits.{Digit}
use Rattle.samplers.specs.Seeded.{public_state, public_drawn, multipliers_drawn}
use Rattle.samplers.proofs.Laws.{uniform_short}
use Rattle.ntt_products.specs.Stored.{summed_products}
use Rattle.scheme.specs.Encryption.{secret, public_polynomial, errors, residue_vector, key_vector_of, public_vector, key_polynomial, multiplier_vector}
use Rattle.scheme.specs.Encryption.{first_numbers, second_numbers_of, encrypted_numbers, decrypted_number, decrypted_bits}
use Rattle.scheme.specs.Bits.{message_bit}

-- a region has no more entries than places
region_short : {A : Type 0} (xs : List A) (from n : ℕ) → length (region xs from n) ≤ n
unfolding region
region_short xs from n = rw length-take (omega arith)

-- number l of vector i of whole numbers, as a residue
pub residue_vector_at : (p : Parameters) (n : ℕ) (zs : List ℤ) (i l : ℕ) → l < n
    → at (residue_vector p n zs i) l ≡ residue p.q (get_or (vector n zs i) l (pos 0))
unfolding residue_vector
residue_vector_at p n zs i l h =
    let zero-residue : residue p.q (pos 0) ≡ 0 = residue_pos p.q 0 ∙ zero-mod p.q in
    region_entry (map (residue p.q) zs) (n * i) n l 0 h
    ∙ ap (get_or (map (residue p.q) zs) (n * i + l)) (sym zero-residue)
    ∙ get_or-map (residue p.q) zs (n * i + l) (pos 0)
    ∙ ap (residue p.q) (sym (region_entry zs (n * i) n l (pos 0) h))

-- past its n places there is 0
residue_vector_past : (p : Parameters) (n : ℕ) (zs : List ℤ) (i l : ℕ) → n ≤ l → at (residue_vector p n zs i) l ≡ 0
unfolding residue_vector
residue_vector_past p n zs i l h = at_past (residue_vector p n zs i) l (omega (arith, region_short (map (residue p.q) zs) (n * i) n))

-- past the k + 1 places of r_i there is 0
pub multiplier_vector_past : (p : Parameters) (seedr : List ℕ) (i l : ℕ) → p.k + 1 ≤ l → at (multiplier_vector p seedr i) l ≡ 0
unfolding multiplier_vector
multiplier_vector_past p seedr i l h = residue_vector_past p (p.k + 1) (multipliers_drawn p seedr) i l h

-- past the n places of ā_i there is 0
pub public_polynomial_past : (p : Parameters) (seedpk : List ℕ) (i l : ℕ) → p.n ≤ l → at (public_polynomial p seedpk i) l ≡ 0
unfolding public_polynomial public_drawn
public_polynomial_past p seedpk i l h =
    at_past (public_polynomial p seedpk i) l (omega (arith, uniform_short p (public_state p seedpk i) p.bytpca p.n))

-- how many numbers b_i has
pub public_vector_length : (p : Parameters) (seedsk seedpk : List ℕ) (i : ℕ) → length (public_vector p seedsk seedpk i) ≡ p.d + p.k
unfolding public_vector key_vector_of
public_vector_length p seedsk seedpk i = tabulate_length (p.d + p.k) _

-- number j of b_i
pub public_vector_at : (p : Parameters) (seedsk seedpk : List ℕ) (i j : ℕ) → j < p.d + p.k
    → at (public_vector p seedsk seedpk i) j
    ≡ (correlation p.n (at (public_polynomial p seedpk i)) (at (secret p seedsk)) j + at (residue_vector p (p.d + p.k) (errors p seedsk) i) j) % p.q
unfolding public_vector key_vector_of
public_vector_at p seedsk seedpk i j h = tabulate_at (p.d + p.k) _ j h

-- how many numbers c1' has
pub first_numbers_length : (p : Parameters) (r a : ℕ → List ℕ) → length (first_numbers p r a) ≡ p.n + p.k
unfolding first_numbers summed_products
first_numbers_length p r a = tabulate_length (p.n + p.k) _

-- number l of c1'
pub first_numbers_at : (p : Parameters) (r a : ℕ → List ℕ) (l : ℕ) → l < p.n + p.k → at (first_numbers p r a) l ≡ sum p.t (λ i. product (r i) (a i) l) % p.q
unfolding first_numbers summed_products
first_numbers_at p r a l h = tabulate_at (p.n + p.k) _ l h

-- how many numbers c2' has
pub encrypted_numbers_length : (p : Parameters) (pk message seedr : List ℕ) → length (encrypted_numbers p pk message seedr) ≡ p.d
unfolding encrypted_numbers second_numbers_of
encrypted_numbers_length p pk message seedr = tabulate_length p.d _

-- number j of c2'
pub encrypted_numbers_at : (p : Parameters) (pk message seedr : List ℕ) (j : ℕ) → j < p.d
    → at (encrypted_numbers p pk message seedr) j
    ≡ (sum p.t (λ i. correlation (p.k + 1) (at (multiplier_vector p seedr i)) (at (key_polynomial p pk i)) j) + half_modulus_of p * message_bit p message j) %
    p.q
unfolding encrypted_numbers second_numbers_of message_bit
encrypted_numbers_at p pk message seedr j h = tabulate_at p.d _ j h

-- how many bits are read
pub decrypted_bits_length : (p : Parameters) (seedsk ct : List ℕ) → length (decrypted_bits p seedsk ct) ≡ p.d
unfolding decrypted_bits
decrypted_bits_length p seedsk ct = tabulate_length p.d _

-- the bit read at place j
pub decrypted_bits_at : (p : Parameters) (seedsk ct : List ℕ) (j : ℕ) → j < p.d
    → at (decrypted_bits p seedsk ct) j ≡ centred_bit (half_modulus_of p) (decrypted_number p seedsk ct j)
unfolding decrypted_bits
decrypted_bits_at p seedsk ct j h = tabulate_at p.d _ j h

-- what is read are bits
pub decrypted_bits_below : (p : Parameters) (seedsk ct : List ℕ) → Digit 1 (decrypted_bits p seedsk ct)
unfolding centred_bit
decrypted_bits_below p seedsk ct j =
    elim (dec_lt j p.d) [
      | yes inside ↦ rw (decrypted_bits_at p seedsk ct j inside) (mod-lt _ {m = 2} (omega arith))
      | no past ↦ rw (at_past (decrypted_bits p seedsk ct) j (omega (arith, decrypted_bits_length p seedsk ct))) (omega arith)
    ]

-- a number that is opened is a residue
pub decrypted_number_below : (p : Parameters) (seedsk ct : List ℕ) (j : ℕ) → 0 < p.q → decrypted_number p seedsk ct j < p.q
unfolding decrypted_number
decrypted_number_below p seedsk ct j h = mod-lt _ h
