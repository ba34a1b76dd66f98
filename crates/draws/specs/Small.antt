-- Small numbers: errors and multipliers (003, section 2.2.3, algorithms 9 and 10; 01, Draws). An error of sets 1 to 12 takes one byte, since η is 4.
-- Assumes nothing.
use Rattle.std.specs.Prelude.{◌≡◌, refl, cond, List, [], ◌∷◌, ℕ, zero, suc, ◌+◌, ◌*◌, ◌/◌, ◌%◌, ◌^◌, eqb, ℤ, pos, negsuc, neg_ℤ, ◌-ℤ◌, get_or}
use Rattle.calls.specs.Region.{region}
use Rattle.sets.specs.declared.Parameters.{Parameters}
use Rattle.sets.specs.Table.{table, set_of}
use Rattle.sets.specs.Derived.{multiplier_count_of, multiplier_bits_of, multiplier_bytes_of}
use Rattle.maths.specs.Bytes.{little_endian}

-- how many of the low bits of a number are 1
unfoldable pub ones : ℕ → ℕ → ℕ
ones zero x = 0
ones (suc bits) x = x % 2 + ones bits (x / 2)

-- algorithm 9: the ones in the low four bits, minus the ones in the high four
unfoldable pub error_of_value : ℕ → ℤ
error_of_value byte = pos (ones 4 byte) -ℤ pos (ones 4 (byte / 16))

-- error j takes byte j
unfoldable pub error_at : List ℕ → ℕ → ℤ
error_at bytes j = error_of_value (get_or bytes j 0)

-- algorithm 10: a multiplier of the size that bytes give, 1 to 2^bits, negative where the sign bit is 1
unfoldable pub multiplier_of_value : ℕ → ℕ → ℕ → ℤ
multiplier_of_value bits size sign = cond (eqb sign 1) (neg_ℤ (pos (size % 2 ^ bits + 1))) (pos (size % 2 ^ bits + 1))

-- the place of the first sign byte: after the sizes of all positions of one sealing
unfoldable pub signs_at_of : Parameters → ℕ
signs_at_of p = multiplier_count_of p * multiplier_bytes_of p

-- the sign bit at a position: sign bytes begin at a place, bits are counted from the least significant
unfoldable pub sign_bit : List ℕ → ℕ → ℕ → ℕ
sign_bit bytes signs position = get_or bytes (signs + position / 8) 0 / 2 ^ (position % 8) % 2

-- the multiplier at a position, from the bytes of one whole sealing
unfoldable pub multiplier_at_of : Parameters → List ℕ → ℕ → ℤ
multiplier_at_of p bytes position =
    multiplier_of_value (multiplier_bits_of p position) (little_endian (region bytes (position * multiplier_bytes_of p) (multiplier_bytes_of p)))
    (sign_bit bytes (signs_at_of p) position)

-- 0b0111_0001: one 1 in the low half, three in the high half
error_of_example : error_of_value 0b0111_0001 ≡ negsuc 1
unfolding ones error_of_value
error_of_example = refl

error_of_example₂ : error_of_value 0b0000_1111 ≡ pos 4
unfolding ones error_of_value
error_of_example₂ = refl

-- 300 mod 32 is 12
multiplier_of_example : multiplier_of_value 5 300 0 ≡ pos 13
unfolding multiplier_of_value
multiplier_of_example = refl

multiplier_of_example₂ : multiplier_of_value 5 31 1 ≡ negsuc 31
unfolding multiplier_of_value
multiplier_of_example₂ = refl

-- bit 2 of the second sign byte
sign_bit_example : sign_bit (0 ∷ 0 ∷ 0 ∷ 0b0000_0100 ∷ []) 2 10 ≡ 1
unfolding sign_bit
sign_bit_example = refl

sign_bit_example₂ : sign_bit (0 ∷ 0 ∷ 0 ∷ 0b0000_0100 ∷ []) 2 13 ≡ 0
unfolding sign_bit
sign_bit_example₂ = refl

-- set 1 has 2,560 positions of one byte
signs_at_example : signs_at_of (set_of 1) ≡ 2560
unfolding table set_of multiplier_count_of multiplier_bytes_of signs_at_of
signs_at_example = refl

-- Bench has two positions of one byte with sizes 1 and 2, and one sign byte after them
multiplier_at_example : multiplier_at_of (set_of 0) (3 ∷ 4 ∷ 0b10 ∷ []) 1 ≡ negsuc 0
unfolding table set_of multiplier_count_of multiplier_bytes_of little_endian region multiplier_of_value multiplier_bits_of signs_at_of sign_bit multiplier_at_of
multiplier_at_example = refl
