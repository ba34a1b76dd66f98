-- Laws of congruence modulo q.
-- Assumes nothing.
use mathlib.Core.Path.{◌≡◌, refl, sym, ap, ◌∙◌}
use mathlib.Core.Logic.{◌≢◌}
use Prim.Native.Nat.{ℕ, zero, suc, ◌+◌, ◌*◌, ◌/◌, ◌%◌, ◌^◌, ◌<◌}
use native.Mathlib.Nat.{mod-mod, mod-zero, zero-mod, mod-add-div', add-mod, add-mul-mod_self_right, mul-mod_left, pow-zero, pow-suc, mul_comm, one-mul}
use native.Mathlib.Nat.{add_right_cancel}
use native.Mathlib.Omega.{arith}
use Rattle.maths.specs.Sum.{sum}
use Rattle.maths.specs.Congruence.{Mod}
use Rattle.maths.proofs.Sum.{sum_pick}

-- each number is congruent to itself
pub mod_refl : {q : ℕ} (a : ℕ) → Mod q a a
mod_refl a = record { same = refl }

-- equal numbers are congruent
pub mod_eq : {q a b : ℕ} → a ≡ b → Mod q a b
mod_eq {q} e = record { same = ap (λ (x : ℕ). x % q) e }

-- congruence may be read from right to left
pub mod_sym : {q a b : ℕ} → Mod q a b → Mod q b a
mod_sym h = record { same = sym h.same }

-- two congruences one after the other
pub mod_trans : {q a b c : ℕ} → Mod q a b → Mod q b c → Mod q a c
mod_trans h k = record { same = h.same ∙ k.same }

-- the remainder is congruent to the number
pub mod_remainder : (q a : ℕ) → Mod q (a % q) a
mod_remainder q a = record { same = mod-mod a q }

-- sums of congruent numbers
pub mod_add : {q a b c d : ℕ} → Mod q a b → Mod q c d → Mod q (a + c) (b + d)
mod_add {q} {a} {b} {c} {d} h k = record { same = rw (add-mod a c q, add-mod b d q, h.same, k.same) }

-- a factor may be replaced by its remainder
mul_remainder : (q a c : ℕ) → Mod q (a * c) (a % q * c)
mul_remainder q a c =
    let e : a * c ≡ a % q * c + a / q * c * q = omega (arith, ap (λ (x : ℕ). x * c) (mod-add-div' a q)) in
    record { same = rw (e, add-mul-mod_self_right) }

-- products of congruent numbers, the second factor the same
mod_mul_by : {q a b : ℕ} (c : ℕ) → Mod q a b → Mod q (a * c) (b * c)
mod_mul_by {q} {a} {b} c h = mod_trans (mul_remainder q a c) (rw h.same (mod_sym (mul_remainder q b c)))

-- products of congruent numbers
pub mod_mul : {q a b c d : ℕ} → Mod q a b → Mod q c d → Mod q (a * c) (b * d)
mod_mul {q} {a} {b} {c} {d} h k = mod_trans (mod_mul_by c h) (rw (mul_comm b c, mul_comm b d) (mod_mul_by b k))

-- a factor that is congruent to 1 may be left out
pub mod_one_mul : {q a : ℕ} (b : ℕ) → Mod q a 1 → Mod q (a * b) b
mod_one_mul b h = mod_trans (mod_mul_by b h) (mod_eq (one-mul b))

-- powers of congruent numbers
pub mod_pow : {q a b : ℕ} (n : ℕ) → Mod q a b → Mod q (a ^ n) (b ^ n)
mod_pow zero h = mod_eq (simp pow-zero)
mod_pow (suc n) h = simp pow-suc (mod_mul (mod_pow n h) h)

-- sums of terms that are congruent below n
pub mod_sum : {q : ℕ} (n : ℕ) (f g : ℕ → ℕ) → ((i : ℕ) → i < n → Mod q (f i) (g i)) → Mod q (sum n f) (sum n g)
unfolding sum
mod_sum zero f g e = mod_refl 0
mod_sum (suc n) f g e = mod_add (mod_sum n f g (λ i h. e i (omega arith))) (e n (omega arith))

-- one term picked: all the others are congruent to 0
pub mod_sum_pick : {q : ℕ} (n : ℕ) (f : ℕ → ℕ) (k : ℕ) → k < n → ((i : ℕ) → i < n → i ≢ k → Mod q (f i) 0) → Mod q (sum n f) (f k)
mod_sum_pick {q} n f k h e =
    let others : (i : ℕ) → i < n → i ≢ k → f i % q ≡ 0 = λ i l d. (e i l d).same ∙ zero-mod q in
    mod_trans (mod_sum n f (λ i. f i % q) (λ i l. mod_sym (mod_remainder q (f i)))) (rw (sum_pick n (λ i. f i % q) k h others) (mod_remainder q (f k)))

-- a multiple of q may be added
pub mod_add_multiple : (q a k : ℕ) → Mod q (a + k * q) a
mod_add_multiple q a k = record { same = add-mul-mod_self_right a k q }

-- a multiple of q is congruent to 0
pub mod_multiple : (q k : ℕ) → Mod q (k * q) 0
mod_multiple q k = record { same = mul-mod_left k q ∙ sym (zero-mod q) }

-- an addend on both sides cancels
pub mod_add_cancel : {q a b : ℕ} (c : ℕ) → Mod q (a + c) (b + c) → Mod q a b
mod_add_cancel {q = zero} {a} {b} c h = mod_eq (add_right_cancel c (simp mod-zero at h.same))
mod_add_cancel {q = suc k} {a} {b} c h =
    let whole : (x : ℕ) → Mod (suc k) x (x + c + c * k) = λ x. mod_trans (mod_sym (mod_add_multiple (suc k) x c)) (mod_eq (omega arith)) in
    mod_trans (whole a) (mod_trans (mod_add h (mod_refl (c * k))) (mod_sym (whole b)))
