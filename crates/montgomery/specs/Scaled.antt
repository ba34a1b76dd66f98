-- Numbers in Montgomery's form, x kept as x · 2^32 modulo q for an odd q, and the smallest reduction step (003 section 3.4.2, algorithm 43; 02, No. 4).
-- Assumes nothing.
use Rattle.std.specs.Prelude.{◌≡◌, refl, ℕ, ◌+◌, ◌*◌, ◌/◌, ◌%◌, ◌^◌, ◌<◌}

-- the scaled form of x modulo q
unfoldable pub scale : ℕ → ℕ → ℕ
scale q x = x * 2 ^ 32 % q

-- what x is the scaled form of: x divided by 2^32 modulo q, since (q + 1) / 2 is the inverse of 2
unfoldable pub unscale : ℕ → ℕ → ℕ
unscale q x = x * ((q + 1) / 2) ^ 32 % q

-- an odd modulus below 2^24
pub record Odd (q : ℕ) : Type 0 where
  pub odd : q % 2 ≡ 1
  pub some : 1 < q
  pub small : q < 2 ^ 24

-- an odd modulus, and k, the negated inverse of q modulo 2^32
pub record Modulus (q k : ℕ) : Type 0 where
  pub modulus : Odd q
  pub inverse : (q * k + 1) % 2 ^ 32 ≡ 0

-- one step of Newton's method for the negated inverse
unfoldable pub newton_step_of : ℕ → ℕ → ℕ
newton_step_of q b = b * ((q * b % 2 ^ 32 + 2) % 2 ^ 32) % 2 ^ 32

-- the negated inverse of q modulo 2^32, algorithm 43's b: each step doubles the bits that are right, and one bit of 1 is
unfoldable pub negated_inverse_of : ℕ → ℕ
negated_inverse_of q = newton_step_of q (newton_step_of q (newton_step_of q (newton_step_of q (newton_step_of q 1))))

-- algorithm 43, with 2^32 for its ρ: x plus the multiple of q that makes it a multiple of 2^32, divided by 2^32
unfoldable pub lazy : ℕ → ℕ → ℕ
lazy q x = (x + x % 2 ^ 32 * negated_inverse_of q % 2 ^ 32 * q) / 2 ^ 32

-- the same for any number of 64 bits, in two steps: the product with the residue of 2^64 keeps the place of the upper 32 bits
unfoldable pub lazy_long : ℕ → ℕ → ℕ
lazy_long q x = lazy q (lazy q (x / 2 ^ 32 * (2 ^ 64 % q)) + x % 2 ^ 32)

-- 5 · 2^32 is 5 · 16^8, and 16^8 is 1 modulo 17
scale_example : scale 17 5 ≡ 5
unfolding scale
scale_example = refl

-- 2^32 is 4 modulo 7, and 5 · 4 is 6 modulo 7
unscale_example : unscale 7 6 ≡ 5
unfolding unscale
unscale_example = refl

-- 17 · 252645135 is 2^32 − 1
negated_inverse_example : negated_inverse_of 17 ≡ 252645135
unfolding negated_inverse_of newton_step_of
negated_inverse_example = refl

-- 2^32 is 1 modulo 17, so that dividing by it changes no residue: 100 is 15
lazy_example : lazy 17 100 ≡ 15
unfolding lazy negated_inverse_of newton_step_of
lazy_example = refl

-- 34 is twice 17, and gives 17, not 0
lazy_whole_example : lazy 17 34 ≡ 17
unfolding lazy negated_inverse_of newton_step_of
lazy_whole_example = refl
