-- Laws of powers, and the geometric sum.
-- Assumes nothing.
use mathlib.Core.Path.{◌≡◌}
use Prim.Native.Nat.{ℕ, zero, suc, ◌+◌, ◌*◌, ◌%◌, ◌^◌, ◌≤◌, ◌<◌}
use native.Mathlib.Nat.{pow-zero, pow-suc, mul-zero, mul-suc, one-mul, mod-eq_of_lt}
use native.Mathlib.Omega.{arith}
use lib.Pow.{pow-add, pow_pos, pow_mono}
use Rattle.maths.specs.Sum.{sum}

-- a power of a power
pub pow_mul : (a b c : ℕ) → (a ^ b) ^ c ≡ a ^ (b * c)
pow_mul a b zero = simp (mul-zero, pow-zero)
pow_mul a b (suc c) = rw (pow-suc, mul-suc, pow-add, pow_mul a b c)

-- a power of a product
pub mul_pow : (a b n : ℕ) → (a * b) ^ n ≡ a ^ n * b ^ n
mul_pow a b zero = simp pow-zero
mul_pow a b (suc n) = simp pow-suc (rw (mul_pow a b n) (omega arith))

-- a power of one
pub one_pow : (n : ℕ) → 1 ^ n ≡ 1
one_pow zero = pow-zero 1
one_pow (suc n) = rw (pow-suc, one_pow n)

-- the geometric sum, with nothing subtracted
pub geometric : (x D : ℕ) → x * sum D (λ m. x ^ m) + 1 ≡ sum D (λ m. x ^ m) + x ^ D
unfolding sum
geometric x zero = simp (mul-zero, pow-zero)
geometric x (suc D) = omega (arith, geometric x D, pow-suc x D)

module _ (bits : ℕ) (h : bits ≤ 21) where
  -- 2^bits is small
  power_most : 2 ^ bits ≤ 2097152
  power_most = pow_mono h

  -- a 1 shifted by so many bits does not leave a word of 32 bits
  pub shifted : 1 * 2 ^ bits % 4294967296 ≡ 2 ^ bits
  shifted = rw one-mul (mod-eq_of_lt (omega (arith, power_most)))

  -- and is not zero
  pub shifted_some : 0 < 1 * 2 ^ bits % 4294967296
  shifted_some = rw shifted (pow_pos bits)
