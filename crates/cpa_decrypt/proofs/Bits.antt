-- The bits that the differences are read as, and the message of algorithm 3.
-- Assumes nothing.
use mathlib.Core.Path.{◌≡◌, sym, ap, ◌∙◌}
use mathlib.Core.List.{List}
use Prim.Native.Nat.{ℕ, ◌+◌, ◌-◌, ◌/◌, ◌%◌, ◌<◌}
use native.Mathlib.Nat.{mod-lt}
use native.Mathlib.Decide.{dec_lt}
use native.Mathlib.Omega.{arith}
use lib.ListN.{length, take, drop, length-drop}
use lib.Seq.{get_or-take, take_all}
use Rattle.maths.specs.Vector.{at}
use Rattle.maths.specs.Rounding.{centred_bit, threshold_bit_of}
use Rattle.maths.proofs.Vector.{at_past, tabulate_length, tabulate_at, tabulate_cong}
use Rattle.maths.proofs.Congruence.{mod_refl, mod_remainder, mod_add}
use Rattle.maths.proofs.Rounding.{centred_bit_threshold}
use Rattle.sets.specs.declared.Parameters.{Parameters}
use Rattle.sets.specs.Derived.{half_modulus_of}
use Rattle.sets.specs.Rules.{Rules, ByteRules}
use Rattle.packing.specs.Digits.{Digit}
use Rattle.packing.specs.Dropped.{unpack_dropped_of}
use Rattle.packing.specs.Message.{message_bytes}
use Rattle.scheme.specs.Encryption.{first_bytes_of, stored_secret, secret, cipher_second, decrypted_number, decrypted_bits, decrypted_message}
use Rattle.cpa_decrypt.specs.Decrypted.{first_correlations, difference_bit_of, difference_bits, decrypted_bits_from, decrypted_message_from}

module _ (p : Parameters) where
  -- the bit of a number of c2 that was taken modulo q, by the thresholds
  pub difference_bit_threshold : Rules p → ByteRules p → (x y : ℕ)
      → difference_bit_of p x y ≡ threshold_bit_of (half_modulus_of p) ((x % p.q + (p.q - y)) % p.q)
  unfolding difference_bit_of
  difference_bit_threshold rules bytes x y =
      let h : ℕ = half_modulus_of p in
      let some : 0 < p.q = omega (arith, rules.odd) in
      let above : 0 < h = omega (arith, rules.odd, rules.prime.above) in
      ap (centred_bit h) (sym (mod_add (mod_remainder p.q x) (mod_refl (p.q - y))).same)
      ∙ centred_bit_threshold h (h / 2) _ above bytes.even_half (rw (← rules.odd) (mod-lt _ some))

  module _ (xs ys : List ℕ) where
    -- there are d of them
    pub difference_bits_length : length (difference_bits p xs ys) ≡ p.d
    unfolding difference_bits
    difference_bits_length = tabulate_length p.d _

    -- the bit at a place
    pub difference_bits_at : (j : ℕ) → j < p.d → at (difference_bits p xs ys) j ≡ difference_bit_of p (at xs j) (at ys j)
    unfolding difference_bits
    difference_bits_at j h = tabulate_at p.d _ j h

    -- each is a bit
    difference_bits_below : Digit 1 (difference_bits p xs ys)
    unfolding difference_bit_of centred_bit
    difference_bits_below j =
        elim (dec_lt j p.d) [
          | yes inside ↦ rw (difference_bits_at j inside) (mod-lt _ {m = 2} (omega arith))
          | no past ↦ rw (at_past (difference_bits p xs ys) j (omega (arith, difference_bits_length))) (omega arith)
        ]

  -- only the first d correlations are read
  pub difference_bits_front : (xs ys : List ℕ) → difference_bits p xs ys ≡ difference_bits p xs (take p.d ys)
  unfolding difference_bits
  difference_bits_front xs ys = tabulate_cong p.d _ _ (λ j h. ap (difference_bit_of p (at xs j)) (sym (get_or-take p.d ys j 0 h)))

  -- c2 from the last bytes of a ciphertext
  pub second_unpacked : (ct : List ℕ) (from : ℕ) → from ≡ first_bytes_of p
      → unpack_dropped_of p.width p.cmp p.d (take (length ct - from) (drop from ct)) ≡ cipher_second p ct
  unfolding cipher_second
  second_unpacked ct from e =
      ap (unpack_dropped_of p.width p.cmp p.d) (take_all (length ct - from) (drop from ct) (simp length-drop (omega arith)) ∙ ap (λ (n : ℕ). drop n ct) e)

  -- what is read are bits
  pub decrypted_bits_from_below : (stored ct : List ℕ) → Digit 1 (decrypted_bits_from p stored ct)
  unfolding decrypted_bits_from
  decrypted_bits_from_below stored ct = difference_bits_below _ _

  -- with the secret stored that is drawn from a seed, the bits are those of algorithm 3
  opened_bits : (seed ct : List ℕ) → decrypted_bits_from p (stored_secret p seed) ct ≡ decrypted_bits p seed ct
  unfolding decrypted_bits_from difference_bits difference_bit_of first_correlations decrypted_bits decrypted_number secret
  opened_bits seed ct =
      tabulate_cong p.d _ _ (λ j h. ap (λ (y : ℕ). centred_bit (half_modulus_of p) ((at (cipher_second p ct) j + (p.q - y)) % p.q)) (tabulate_at p.d _ j h))

  -- and so is the message
  pub opened_message : (seed ct : List ℕ) → decrypted_message_from p (stored_secret p seed) ct ≡ decrypted_message p seed ct
  unfolding decrypted_message_from decrypted_message
  opened_message seed ct = ap (message_bytes 32) (opened_bits seed ct)
