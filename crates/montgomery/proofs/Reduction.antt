-- Montgomery's reduction: x plus the multiple of q that makes it a multiple of N, divided by N, where k is the negated inverse of q modulo N.
-- Assumes nothing.
use mathlib.Core.Path.{◌≡◌, ◌∙◌}
use Prim.Native.Nat.{ℕ, ◌+◌, ◌*◌, ◌/◌, ◌%◌, ◌^◌, ◌<◌}
use native.Mathlib.Nat.{zero-mod, mul-zero, mod-lt, dvd_of_mod-eq-zero, div-mul_cancel, div-lt_iff_lt-mul, mul-le-mul_left, mul-le-mul_right}
use native.Mathlib.Nat.{mul-lt-mul_of_pos_right, lt_of_le_of_lt, le_of_lt}
use native.Mathlib.Omega.{arith}
use Rattle.maths.specs.Congruence.{Mod}
use Rattle.maths.proofs.Congruence.{mod_refl, mod_eq, mod_trans, mod_remainder, mod_add, mod_mul, mod_add_multiple}
use Rattle.montgomery.specs.Scaled.{unscale, Modulus}
use Rattle.montgomery.proofs.Scaled.{unscale_unique, unscale_is}

-- the product of two numbers below limits
pub product_below : {x y b d : ℕ} → x < b → y < d → x * y < b * d
product_below {x} {y} {b} {d} h l = lt_of_le_of_lt (mul-le-mul_left {m = y} {n = d} x (omega arith)) (mul-lt-mul_of_pos_right h (omega arith))

-- how many times q is added
abbrev pub multiplier : ℕ → ℕ → ℕ → ℕ
multiplier N k x = x % N * k % N

module _ (N q k : ℕ) (inverse : (q * k + 1) % N ≡ 0) (x : ℕ) where
  -- then it is a multiple of N
  multiple : (x + multiplier N k x * q) % N ≡ 0
  multiple =
      let times : Mod N (multiplier N k x) (x * k) = mod_trans (mod_remainder N (x % N * k)) (mod_mul (mod_remainder N x) (mod_refl k)) in
      let sum : Mod N (x + multiplier N k x * q) (x + x * k * q) = mod_add (mod_refl x) (mod_mul times (mod_refl q)) in
      let factor : x + x * k * q ≡ x * (q * k + 1) = omega arith in
      let none : Mod N (q * k + 1) 0 = record { same = inverse ∙ rw zero-mod } in
      (mod_trans sum (mod_trans (mod_eq factor) (mod_trans (mod_mul (mod_refl x) none) (mod_eq (mul-zero x))))).same ∙ zero-mod N

  -- the quotient is exact
  exact : (x + multiplier N k x * q) / N * N ≡ x + multiplier N k x * q
  exact = div-mul_cancel N (dvd_of_mod-eq-zero N multiple)

  -- N times the quotient is x modulo q
  reduced : Mod q ((x + multiplier N k x * q) / N * N) x
  reduced = mod_trans (mod_eq exact) (mod_add_multiple q x (multiplier N k x))

  module _ (some : 0 < N) (small : x < q * N) where
    -- the sum is below 2 · q · N
    pub sum_below : x + multiplier N k x * q < 2 * q * N
    sum_below = omega (arith, mul-le-mul_right q (le_of_lt (mod-lt (x % N * k) some)))

    -- the quotient is below 2 · q
    pub quotient_below : (x + multiplier N k x * q) / N < 2 * q
    quotient_below = (div-lt_iff_lt-mul some).1 sum_below

-- the quotient for N = 2^32
pub quotient_is : {q k : ℕ} (x : ℕ) → Modulus q k → (x + multiplier (2 ^ 32) k x * q) / 2 ^ 32 % q ≡ unscale q x
quotient_is {q} {k} x m = unscale_is x (unscale_unique m.modulus (reduced (2 ^ 32) q k m.inverse x))
