-- The substitution of a byte (FIPS 197, section 5.1.1): its inverse in the field, then an affine map of the bits.
-- Assumes nothing.
use Rattle.std.specs.Prelude.{◌≡◌, refl, ℕ, ◌+◌, ◌*◌, ◌/◌, ◌%◌, ◌^◌}
use Rattle.maths.specs.Sum.{sum}
use Rattle.aes_tables.specs.Field.{x_times_of, times, ◌•◌, squares, inverse}

-- bit i of a byte
abbrev pub bit : ℕ → ℕ → ℕ
bit b i = b / 2 ^ i % 2

-- the affine map: bit i takes those at i, i + 4, i + 5, i + 6, i + 7 modulo 8 and that of the constant 0x63
unfoldable pub affine : ℕ → ℕ
affine b =
    sum 8
    (λ i. (bit b i + bit b ((i + 4) % 8) + bit b ((i + 5) % 8) + bit b ((i + 6) % 8) + bit b ((i + 7) % 8) + bit 0x63 i) % 2 * 2 ^ i)

-- the substitution
unfoldable pub sbox : ℕ → ℕ
sbox b = affine (inverse b)

-- the example of section 5.1.1
sbox_example : sbox 0x53 ≡ 0xed
unfolding x_times_of times ◌•◌ squares inverse affine sbox sum
sbox_example = refl
