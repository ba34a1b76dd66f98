-- Laws of residues modulo q: each result is below q, and a number below 2 · q is reduced by one subtraction.
-- Assumes nothing.
use mathlib.Core.Path.{◌≡◌, sym, ◌∙◌}
use Prim.Native.Nat.{ℕ, ◌-◌, ◌*◌, ◌%◌, ◌≤◌, ◌<◌}
use native.Mathlib.Nat.{mod-lt, mod-eq_of_lt, mod-eq-sub-mod, mul-le-mul_left, mul-lt-mul_of_pos_right, lt_of_le_of_lt}
use native.Mathlib.Omega.{arith}

-- a remainder is below q
pub remainder_below : {r q : ℕ} (x : ℕ) → r ≡ x % q → 0 < q → r < q
remainder_below x e h = rw e (mod-lt x h)

-- a number from q to 2 · q − 1
pub one_subtraction : {x q : ℕ} → q ≤ x → x < 2 * q → x - q ≡ x % q
one_subtraction {x} {q} low high = sym (mod-eq-sub-mod {n = x} {m = q} low ∙ mod-eq_of_lt (omega arith))

-- the product of two numbers below b is below b · b
pub product_below : {x y b : ℕ} → x < b → y < b → x * y < b * b
product_below {x} {y} {b} h k = lt_of_le_of_lt (mul-le-mul_left {m = y} {n = b} x (omega arith)) (mul-lt-mul_of_pos_right h (omega arith))
