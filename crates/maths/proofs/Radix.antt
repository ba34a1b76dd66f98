-- A transform of even size from two transforms of half the size, and what the steps of a transform have done so far.
-- Assumes nothing.
use mathlib.Core.Path.{◌≡◌, sym, ◌∙◌}
use mathlib.Core.Logic.{inl, inr}
use Prim.Native.Nat.{ℕ, ◌+◌, ◌*◌, ◌^◌, ◌<◌}
use native.Mathlib.Nat.{pow-zero, pow-suc, one-mul, add-zero, zero-add, mul-one, mul-zero, mul_assoc, mul_comm, mul-add}
use native.Mathlib.Omega.{arith}
use lib.Pow.{pow-add}
use Rattle.maths.specs.Sum.{sum}
use Rattle.maths.specs.Congruence.{Mod}
use Rattle.maths.specs.Root.{Root}
use Rattle.maths.specs.Transform.{transform_at}
use Rattle.maths.proofs.Sum.{sum_cong, sum_split, sum_add}
use Rattle.maths.proofs.Congruence.{mod_refl, mod_eq, mod_sym, mod_trans, mod_add, mod_mul, mod_one_mul, mod_add_cancel}
use Rattle.maths.proofs.Power.{pow_mul}
use Rattle.maths.proofs.Prime.{zero_or_cancel}
use Rattle.maths.proofs.Convolution.{transform_mod}
use Rattle.maths.proofs.Split.{power_whole}

-- half the order of a root takes it to −1
pub half_power : {q D w v e : ℕ} → Root q D w v e → (n : ℕ) → 2 * n ≡ D → Mod q (w ^ n + 1) 0
half_power {q} {D} {w} r n half =
    let whole : n + n ≡ D = omega arith in
    let square : Mod q (w ^ n * w ^ n) 1 = rw (← pow-add w n n, whole) r.power in
    let fixed : Mod q ((w ^ n + 1) * w ^ n) ((w ^ n + 1) * 1) =
    mod_trans (mod_eq (omega arith)) (mod_trans (mod_add square (mod_refl (w ^ n))) (mod_eq (omega arith))) in
    elim (zero_or_cancel r.prime (w ^ n + 1) fixed) [ inl none ↦ none | inr one ↦ absurd (r.order n (omega arith) (omega arith) one) ]

-- where power n is −1, power 2 · n is 1
pub whole_power : {q : ℕ} (n w : ℕ) → Mod q (w ^ n + 1) 0 → Mod q (w ^ (2 * n)) 1
whole_power n w minus =
    let double : 2 * n ≡ n + n = omega arith in
    rw (double, pow-add) (mod_add_cancel (w ^ n)
    (mod_trans (mod_eq (omega arith))
    (mod_trans (mod_mul (mod_refl (w ^ n)) minus) (mod_trans (mod_eq (mul-zero (w ^ n))) (mod_trans (mod_sym minus) (mod_eq (omega arith)))))))

-- value k of a transform of size 2 · n as value k of one of size n
halves : (n w : ℕ) (x : ℕ → ℕ) (k : ℕ) → transform_at (2 * n) w x k ≡ transform_at n w (λ j. x j + x (n + j) * w ^ (k * n)) k
unfolding transform_at
halves n w x k =
    let double : 2 * n ≡ n + n = omega arith in
    rw double (sum_split n n _ ∙ (sym (sum_add n _ _) ∙ sum_cong n _ _ (λ j h. rw (mul-add, pow-add) (omega arith))))

-- an even value of a transform is a value with the square of the root
even_value : (n w : ℕ) (x : ℕ → ℕ) (i : ℕ) → transform_at n w x (2 * i) ≡ transform_at n (w ^ 2) x i
unfolding transform_at
even_value n w x i = simp (pow_mul, mul_assoc)

-- an odd value of a transform is a value with the square of the root, after a multiplication by powers of the root
odd_value : (n w : ℕ) (x : ℕ → ℕ) (i : ℕ) → transform_at n w x (2 * i + 1) ≡ transform_at n (w ^ 2) (λ j. x j * w ^ j) i
unfolding transform_at
odd_value n w x i =
    sum_cong n _ _ (λ j h.
    let power : (2 * i + 1) * j ≡ j + 2 * (i * j) = omega arith in
    rw (power, pow-add, pow_mul, mul_assoc))

-- an even value from the sums of the two halves
pub radix_even : {q : ℕ} (n w : ℕ) (x : ℕ → ℕ) (i : ℕ) → Mod q (w ^ (2 * n)) 1
    → Mod q (transform_at (2 * n) w x (2 * i)) (transform_at n (w ^ 2) (λ j. x j + x (n + j)) i)
radix_even n w x i whole =
    let power : 2 * i * n ≡ 2 * n * i = omega arith in
    rw (halves, even_value, power)
    (transform_mod n (w ^ 2) _ _ i
    (λ j h. mod_add (mod_refl (x j)) (mod_trans (mod_mul (mod_refl (x (n + j))) (power_whole w (2 * n) i whole)) (mod_eq (mul-one (x (n + j)))))))

-- a − b, by a factor m that is congruent to −1
subtract : {q a c : ℕ} (b m : ℕ) → Mod q (m + 1) 0 → Mod q (c + b) a → Mod q (a + b * m) c
subtract {c = c} b m minus difference =
    mod_trans (mod_add (mod_sym difference) (mod_refl (b * m)))
    (mod_trans (mod_eq (omega arith)) (mod_trans (mod_add (mod_refl c) (mod_mul (mod_refl b) minus)) (mod_eq (omega arith))))

-- an odd value from the differences c of the two halves, times powers of the root
pub radix_odd : {q : ℕ} (n w : ℕ) (x c : ℕ → ℕ) (i : ℕ) → Mod q (w ^ n + 1) 0 → ((j : ℕ) → j < n → Mod q (c j + x (n + j)) (x j))
    → Mod q (transform_at (2 * n) w x (2 * i + 1)) (transform_at n (w ^ 2) (λ j. c j * w ^ j) i)
radix_odd {q} n w x c i minus difference =
    let power : (2 * i + 1) * n ≡ n + 2 * n * i = omega arith in
    let odd : Mod q (w ^ (n + 2 * n * i) + 1) 0 =
    rw (pow-add, mul_comm (w ^ n)) (mod_trans (mod_add (mod_one_mul (w ^ n) (power_whole w (2 * n) i (whole_power n w minus))) (mod_refl 1)) minus) in
    rw (halves, odd_value, power)
    (transform_mod n (w ^ 2) _ _ i (λ j h. mod_mul (subtract (x (n + j)) (w ^ (n + 2 * n * i)) odd (difference j h)) (mod_refl (w ^ j))))

-- the passes of a transform F of s · n places that have divided its size by s: value s · i + c is value i of the transform of size n of the places c, c +
-- s, c + 2s, .. of y
pub record Passed (q s n w : ℕ) (F y : ℕ → ℕ) : Type 0 where
  pub value : (i c : ℕ) → i < n → c < s → Mod q (F (s * i + c)) (transform_at n (w ^ s) (λ j. y (s * j + c)) i)

-- the first power
pow_one : (w : ℕ) → w ^ 1 ≡ w
pow_one w = pow-suc w 0 ∙ simp (pow-zero, one-mul)

-- before the first pass
pub first_pass : (q n w : ℕ) (x : ℕ → ℕ) → Passed q 1 n w (transform_at n w x) x
first_pass q n w x =
    record {
      value = λ i c h k.
          let none : c ≡ 0 = omega arith in
          simp (none, one-mul, add-zero, pow_one) (mod_refl _);
    }

-- after the last pass
pub last_pass : {q s w : ℕ} {F y : ℕ → ℕ} → Passed q s 1 w F y → (c : ℕ) → c < s → Mod q (F c) (y c)
unfolding transform_at sum
last_pass p c h = simp (mul-zero, zero-add, pow-zero, mul-one) at (p.value 0 c (omega arith) h)
