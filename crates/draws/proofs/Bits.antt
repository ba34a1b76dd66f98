-- Laws of errors and multipliers: counts of bits, small signed numbers in the code's width, masks.
-- Assumes nothing.
use mathlib.Core.Path.{◌≡◌, refl, sym, ap, ◌∙◌}
use mathlib.Core.Bool.{Bool, true, false, cond}
use Prim.Native.Nat.{ℕ, zero, suc, ◌+◌, ◌-◌, ◌*◌, ◌/◌, ◌%◌, ◌^◌, ◌≤◌, ◌<◌}
use native.Mathlib.Nat.{one-mul, mod-lt, mod-eq_of_lt}
use native.Mathlib.Omega.{arith}
use lib.Dec.{eqb}
use lib.IntN.{ℤ, pos, negsuc, neg_ℤ, nat_abs, ◌-ℤ◌}
use lib.Bits.{bit_and, and_mask, block_odd, block_half}
use lib.Count as Count
use lib.Count.{ones_step}
use lib.Pow.{pow_pos, pow_mono}
use mir.Syntax.{w32}
use mir.Val.{SFits, to_z, of_z}
use mir.Facts.{to_z_pos, to_z-of_z}
use Rattle.maths.proofs.Integer.{positive_part, negative_part, equal_by_parts, +ℤ-parts, neg_ℤ_parts, nat_abs-+ℤ, nat_abs_neg_ℤ}
use Rattle.draws.specs.Small.{ones, error_of_value, multiplier_of_value}

-- four bits have at most four ones
ones_most : (x : ℕ) → ones 4 x ≤ 4
unfolding ones
ones_most x = omega arith

-- the low bits do not depend on what stands above them
ones_block : (k a r : ℕ) → ones k (a * 2 ^ k + r) ≡ ones k r
unfolding ones
ones_block zero a r = refl
ones_block (suc k) a r = rw (block_odd, block_half, ones_block k a (r / 2))

-- the low four bits are those of the remainder
ones_low : (x : ℕ) → ones 4 x ≡ ones 4 (x % 16)
ones_low x = let e : x ≡ x / 16 * 16 + x % 16 = omega arith in ap (ones 4) e ∙ ones_block 4 (x / 16) (x % 16)

-- the machine's count of ones, of a number of four bits
count_ones : (x : ℕ) → x < 16 → Count.ones x ≡ ones 4 x
unfolding ones Count.ones Count.ones_in
count_ones x h =
    let none : x / 2 / 2 / 2 / 2 ≡ 0 = omega arith in
    omega (arith, ones_step x, ones_step (x / 2), ones_step (x / 2 / 2), ones_step (x / 2 / 2 / 2), ap Count.ones none)

-- a signed number of small size fits
small_fits : {z : ℤ} → nat_abs z < 2 ^ 31 → SFits w32 z
small_fits {z = pos n} h = record { sfits = h }
small_fits {z = negsuc n} h = record { sfits = omega arith }

-- so does a small natural number
pub pos_fits : {n : ℕ} → n < 2 ^ 31 → SFits w32 (pos n)
pos_fits h = record { sfits = h }

-- the difference of two small counts fits
pub difference_fits : (a b : ℕ) → a ≤ 4 → b ≤ 4 → SFits w32 (to_z w32 a -ℤ to_z w32 b)
difference_fits a b h k =
    rw (to_z_pos w32 {n = a} (omega arith), to_z_pos w32 {n = b} (omega arith))
    (small_fits (omega (arith, nat_abs-+ℤ (pos a) (neg_ℤ (pos b)), nat_abs_neg_ℤ (pos b))))

-- the error of a byte, by the machine's counts of its halves
module _ (byte : ℕ) (small : byte < 256) where
  -- the ones of the low half
  low_count : Count.ones (bit_and byte 15) ≡ ones 4 byte
  low_count = rw (and_mask byte 4) (count_ones (byte % 16) (omega arith) ∙ sym (ones_low byte))

  -- the ones of the high half
  high_count : Count.ones (byte / 16) ≡ ones 4 (byte / 16)
  high_count = count_ones (byte / 16) (omega arith)

  -- there are at most four in each half
  pub low_most : Count.ones (bit_and byte 15) ≤ 4
  low_most = rw low_count (ones_most byte)

  pub high_most : Count.ones (byte / 16) ≤ 4
  high_most = rw high_count (ones_most (byte / 16))

  -- their difference, read back from its bits, is the error
  pub error_is : to_z w32 (of_z w32 (to_z w32 (Count.ones (bit_and byte 15)) -ℤ to_z w32 (Count.ones (byte / 16)))) ≡ error_of_value byte
  unfolding error_of_value
  error_is =
      to_z-of_z (difference_fits _ _ low_most high_most)
      ∙ rw (
        low_count,
        high_count,
        to_z_pos w32 {n = ones 4 byte} (omega (arith, ones_most byte)),
        to_z_pos w32 {n = ones 4 (byte / 16)}
            (omega (arith, ones_most (byte / 16))),
      )

-- an error is at most 4 in size
pub error_most : (byte : ℕ) → nat_abs (error_of_value byte) ≤ 4
unfolding error_of_value
error_most byte = go (pos (ones 4 byte) -ℤ pos (ones 4 (byte / 16))) (+ℤ-parts (pos (ones 4 byte)) (neg_ℤ (pos (ones 4 (byte / 16)))))
  where
    go : (z : ℤ) → positive_part z + 0 + negative_part (neg_ℤ (pos (ones 4 (byte / 16)))) ≡ ones 4 byte + positive_part
        (neg_ℤ (pos (ones 4 (byte / 16)))) + negative_part z → nat_abs z ≤ 4
    go (pos n) e = omega (arith, ones_most byte, neg_ℤ_parts (pos (ones 4 (byte / 16))))
    go (negsuc n) e = omega (arith, ones_most (byte / 16), neg_ℤ_parts (pos (ones 4 (byte / 16))))

-- a multiplier is 1 to 2^bits in size
pub multiplier_size : (bits number sign : ℕ) → nat_abs (multiplier_of_value bits number sign) ≡ number % 2 ^ bits + 1
unfolding multiplier_of_value
multiplier_size bits number sign = go (eqb sign 1)
  where
    go : (t : Bool) → nat_abs (cond t (neg_ℤ (pos (number % 2 ^ bits + 1))) (pos (number % 2 ^ bits + 1))) ≡ number % 2 ^ bits + 1
    go true = nat_abs_neg_ℤ (pos (number % 2 ^ bits + 1))
    go false = refl

-- a mask of at most nine bits
module _ (bits : ℕ) (few : bits ≤ 9) where
  -- the power of 2 is small
  pub power_most : 2 ^ bits ≤ 512
  power_most = pow_mono few

  -- the shifted 1 does not leave the width
  shifted : 1 * 2 ^ bits % 4294967296 ≡ 2 ^ bits
  shifted = rw one-mul (mod-eq_of_lt (omega (arith, power_most)))

  -- the mask does not wrap
  pub mask_some : 1 ≤ 1 * 2 ^ bits % 4294967296
  mask_some = rw shifted (pow_pos bits)

  -- the mask leaves the remainder
  pub mask_is : (x : ℕ) → bit_and x (1 * 2 ^ bits % 4294967296 - 1) ≡ x % 2 ^ bits
  mask_is x = rw shifted (and_mask x bits)

  -- which is small
  pub mask_most : (x : ℕ) → x % 2 ^ bits < 512
  mask_most x = omega (arith, power_most, mod-lt x (pow_pos bits))

-- what holds at 0 and at 1 holds at a bit
pub by_bit : (P : ℕ → Type 0) → P 0 → P 1 → (bit : ℕ) → bit < 2 → P bit
by_bit P none one zero h = none
by_bit P none one (suc zero) h = one
by_bit P none one (suc (suc n)) h = absurd (omega arith)

-- the difference of two natural numbers, by its parts
difference : (a b : ℕ) (z : ℤ) → a + negative_part z ≡ positive_part z + b → pos a -ℤ pos b ≡ z
difference a b z e = equal_by_parts (pos a -ℤ pos b) z (omega (arith, +ℤ-parts (pos a) (neg_ℤ (pos b)), neg_ℤ_parts (pos b)))

-- a multiplier of small size
module _ (bits number sign size : ℕ) (value : size ≡ number % 2 ^ bits) (small : size < 512) (bit : sign < 2) where
  -- what is subtracted by the sign is small
  pub doubled_most : 2 * sign * (size + 1) ≤ 512 + (size + 1)
  doubled_most = by_bit (λ (b : ℕ). 2 * b * (size + 1) ≤ 512 + (size + 1)) (omega arith) (omega arith) sign bit

  -- without the 512 the rest is the multiplier
  lowered : pos (512 + (size + 1) - 2 * sign * (size + 1)) -ℤ pos 512 ≡ multiplier_of_value bits number sign
  unfolding multiplier_of_value
  lowered =
      let one = neg_ℤ_parts (pos (number % 2 ^ bits + 1)) in
      by_bit (λ (b : ℕ). pos (512 + (size + 1) - 2 * b * (size + 1)) -ℤ pos 512 ≡ multiplier_of_value bits number b)
      (difference (512 + (size + 1) - 2 * 0 * (size + 1)) 512 (pos (number % 2 ^ bits + 1)) (omega arith))
      (difference (512 + (size + 1) - 2 * 1 * (size + 1)) 512 (neg_ℤ (pos (number % 2 ^ bits + 1))) (omega (arith, one)))
      sign bit

  -- as the code has it
  read_lowered : to_z w32 (512 + (size + 1) - 2 * sign * (size + 1)) -ℤ pos 512 ≡ multiplier_of_value bits number sign
  read_lowered = rw (to_z_pos w32 {n = 512 + (size + 1) - 2 * sign * (size + 1)} (omega arith)) lowered

  -- it fits
  pub multiplier_fits : SFits w32 (to_z w32 (512 + (size + 1) - 2 * sign * (size + 1)) -ℤ pos 512)
  multiplier_fits = rw read_lowered (small_fits (rw multiplier_size (omega arith)))

  -- and is read back
  pub multiplier_is : to_z w32 (of_z w32 (to_z w32 (512 + (size + 1) - 2 * sign * (size + 1)) -ℤ pos 512)) ≡ multiplier_of_value bits number sign
  multiplier_is = to_z-of_z multiplier_fits ∙ read_lowered
