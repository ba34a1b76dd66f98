-- Bytes as elements of the field GF(2^8) (FIPS 197, section 4): bit i of a byte is the coefficient of x^i, and products are taken modulo
-- x^8 + x^4 + x^3 + x + 1.
-- Assumes nothing.
use Rattle.std.specs.Prelude.{◌≡◌, refl, cond, ℕ, zero, suc, ◌-◌, ◌*◌, ◌/◌, ◌%◌, ltb, eqb}
use Rattle.std.specs.Int.Bits.{bit_xor}

infixl 65 ◌⊕◌
infixl 70 ◌•◌
-- section 4.1: the sum of two bytes
abbrev pub ◌⊕◌ : ℕ → ℕ → ℕ
a ⊕ b = bit_xor a b

-- section 4.2, x_times_of: the product of x and a byte
unfoldable pub x_times_of : ℕ → ℕ
x_times_of b = cond (ltb b 128) (2 * b) ((2 * b - 256) ⊕ 0x1b)

-- section 4.2: the product of the n lowest bits of a and the byte b, bit by bit
unfoldable pub times : ℕ → ℕ → ℕ → ℕ
times zero a b = 0
times (suc n) a b = cond (eqb (a % 2) 1) b 0 ⊕ times n (a / 2) (x_times_of b)

-- the product of two bytes
unfoldable pub ◌•◌ : ℕ → ℕ → ℕ
a • b = times 8 a b

-- b^2 • b^4 • .. • b^(2^n)
unfoldable pub squares : ℕ → ℕ → ℕ
squares zero b = 1
squares (suc n) b = let square = b • b in square • squares n square

-- section 4.4: the inverse of a byte is its power 254; its product with the byte is 1, and 0 for 0 (`inverse_rule`, proofs/Substitution.antt)
unfoldable pub inverse : ℕ → ℕ
inverse b = squares 7 b

-- the examples of section 4.2
times_example : 0x57 • 0x83 ≡ 0xc1
unfolding x_times_of times ◌•◌
times_example = refl

times_example₂ : 0x57 • 0x13 ≡ 0xfe
unfolding x_times_of times ◌•◌
times_example₂ = refl

-- 0x53 times 0xca is 1
inverse_example : inverse 0x53 ≡ 0xca
unfolding x_times_of times ◌•◌ squares inverse
inverse_example = refl
