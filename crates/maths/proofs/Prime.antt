-- Primes: the computed test proves them, Euclid's lemma, and cancellation modulo a prime.
-- Assumes nothing.
use mathlib.Core.Path.{◌≡◌, ap, ◌∙◌, sym}
use mathlib.Core.Logic.{◌≢◌, ◌⊎◌, inl, inr}
use mathlib.Core.Bool.{not}
use Prim.Native.Nat.{ℕ, zero, suc, ◌+◌, ◌*◌, ◌/◌, ◌%◌, ◌≤◌, ◌<◌}
use native.Mathlib.Nat.{eq-or-lt_of_le, eq-zero-or-pos, le_refl, mod-lt, mul-le-mul, mul_comm, one-mul, pos_of_ne-zero, mod-add-div', zero-mod, mul-zero}
use native.Mathlib.Nat.{mul-mod_left, mul-le-mul_left, lt_of_mul-lt-mul_right, lt_of_not-le}
use native.Mathlib.Decide.{dec_le}
use native.Mathlib.Omega.{arith}
use lib.Dec.{T, ltb, eqb, T_not, ltb→lt}
use mir.Facts.{and_yes, or_yes}
use Rattle.maths.specs.Prime.{Prime, no_divisor_from, is_prime}
use Rattle.maths.specs.Congruence.{Mod}
use Rattle.maths.proofs.Congruence.{mod_refl, mod_eq, mod_sym, mod_trans, mod_add, mod_mul, mod_remainder, mod_multiple, mod_add_cancel}

-- after the test from a on, no number from a to the square root of q divides q
no_small_divisor : (n a q : ℕ) → T (no_divisor_from n a q) → (d : ℕ) → a ≤ d → d * d ≤ q → q % d ≢ 0
unfolding no_divisor_from
no_small_divisor zero a q t d low high e = omega (arith, ltb→lt q (a * a) t, mul-le-mul low low)
no_small_divisor (suc n) a q t d low high e =
    elim (or_yes (ltb q (a * a)) _ t) [
      | inl above ↦ omega (arith, ltb→lt q (a * a) above, mul-le-mul low low)
      | inr rest ↦
          let both = and_yes (not (eqb (q % a) 0)) (no_divisor_from n (suc a) q) rest in
          elim (eq-or-lt_of_le low) [
            | inl first ↦ T_not (eqb (q % a) 0) both.0 (rw (first, e) tt)
            | inr later ↦ no_small_divisor n (suc a) q both.1 d later high e
          ]
    ]

-- where no number from 2 to the square root of q divides q, none above it does: the other factor would be below
no_large_divisor : {q : ℕ} (a d : ℕ) → d * a ≡ q → a < q → q < a * a → ((c : ℕ) → 1 < c → c * c ≤ q → q % c ≢ 0) → ⊥
no_large_divisor {q} a d e less above small =
    let below : d < a = lt_of_mul-lt-mul_right a (omega arith) in
    small d (lt_of_mul-lt-mul_right a (omega arith)) (omega (arith, mul-le-mul_left d below)) (rw (← e, mul_comm d a, mul-mod_left))

-- trial division proves a prime
pub prime : (q : ℕ) → T (is_prime q) → Prime q
unfolding is_prime
prime q t =
    let both = and_yes (ltb 1 q) (no_divisor_from q 2 q) t in
    record {
      above = ltb→lt 1 q both.0;
      no_divisor = λ a more less e.
          elim (dec_le (a * a) q) [
            | yes low ↦ no_small_divisor q 2 q both.1 a more low e
            | no high ↦ no_large_divisor a (q / a) (omega (arith, mod-add-div' q a)) less (lt_of_not-le high) (no_small_divisor q 2 q both.1)
          ];
    }

-- a number from 1 to q − 1 is no factor of a multiple of the prime q
descend : {q : ℕ} → Prime q → (n a b : ℕ) → a ≤ n → 0 < a → a < q → Mod q (a * b) 0 → Mod q b 0
descend p zero a b fuel low high h = omega arith
descend {q} p (suc n) a b fuel low high h =
    elim (eq-or-lt_of_le low) [
      | inl one ↦ rw (← one, one-mul) at h
      | inr more ↦
          let r : ℕ = q % a in
          let c : ℕ = q / a * (a * b) in
          let whole : r * b + c ≡ b * q = omega (arith, ap (λ (x : ℕ). x * b) (mod-add-div' q a)) in
          let zero-c : Mod q c 0 = mod_trans (mod_mul (mod_refl (q / a)) h) (mod_eq (mul-zero (q / a))) in
          descend p n r b (omega (arith, mod-lt q low)) (pos_of_ne-zero (p.no_divisor a more high)) (omega (arith, mod-lt q low))
          (mod_add_cancel c (mod_trans (rw whole (mod_multiple q b)) (mod_sym (mod_add (mod_refl 0) zero-c))))
    ]

-- Euclid's lemma: a prime that divides a product divides a factor
pub euclid : {q : ℕ} → Prime q → (a b : ℕ) → Mod q (a * b) 0 → Mod q a 0 ⊎ Mod q b 0
euclid {q} p a b h =
    elim (eq-zero-or-pos (a % q)) [
      | inl e ↦ inl (record { same = e ∙ sym (zero-mod q) })
      | inr low ↦ inr (descend p (a % q) (a % q) b (le_refl (a % q)) low (mod-lt a (omega arith)) (mod_trans (mod_mul (mod_remainder q a) (mod_refl b)) h))
    ]

-- a common factor is 0 modulo a prime, or it cancels
pub zero_or_cancel : {q a b : ℕ} → Prime q → (c : ℕ) → Mod q (c * a) (c * b) → Mod q c 0 ⊎ Mod q a b
zero_or_cancel {q = zero} p c h = absurd (omega arith)
zero_or_cancel {q = suc k} {a} {b} p c h =
    let difference : Mod (suc k) (c * (a + k * b)) 0 =
    mod_trans (mod_eq (omega arith)) (mod_trans (mod_add h (mod_refl (k * (c * b)))) (mod_trans (mod_eq (omega arith)) (mod_multiple (suc k) (c * b)))) in
    elim (euclid p c (a + k * b) difference) [
      | inl none ↦ inl none
      | inr same ↦ inr (mod_add_cancel (k * b) (mod_trans same (mod_sym (mod_trans (mod_eq (omega arith)) (mod_multiple (suc k) b)))))
    ]
