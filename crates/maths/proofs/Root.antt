-- Roots of unity modulo a prime: orthogonality of their powers, and the inverse of the transform.
-- Assumes nothing.
use mathlib.Core.Path.{◌≡◌, sym, ◌∙◌}
use mathlib.Core.Logic.{◌≢◌, inl, inr}
use Prim.Native.Nat.{ℕ, ◌+◌, ◌-◌, ◌*◌, ◌^◌, ◌≤◌, ◌<◌}
use native.Mathlib.Nat.{mul_comm, mul-one, mul-zero, mul_assoc, add-sub_of_le}
use native.Mathlib.Decide.{dec_le}
use native.Mathlib.Omega.{arith}
use lib.Pow.{pow-add}
use Rattle.maths.specs.Sum.{sum}
use Rattle.maths.specs.Congruence.{Mod}
use Rattle.maths.specs.Root.{Root}
use Rattle.maths.specs.Transform.{transform_at}
use Rattle.maths.proofs.Sum.{sum_swap, sum_mul_left, sum_mul_right, sum_const}
use Rattle.maths.proofs.Congruence.{mod_refl, mod_eq, mod_sym, mod_trans, mod_add, mod_mul, mod_one_mul, mod_pow, mod_sum, mod_sum_pick, mod_add_cancel}
use Rattle.maths.proofs.Power.{pow_mul, mul_pow, one_pow, geometric}
use Rattle.maths.proofs.Prime.{zero_or_cancel}

-- the terms of the sums below are the powers of w^i · v^k
power_term : (w v i k m : ℕ) → w ^ (m * i) * v ^ (m * k) ≡ (w ^ i * v ^ k) ^ m
power_term w v i k m = rw (mul_pow, pow_mul w, pow_mul v, mul_comm m i, mul_comm m k)

module _ {q D w v e : ℕ} (r : Root q D w v e) where
  -- the powers of a root and of its inverse cancel
  pub powers_cancel : (n : ℕ) → Mod q (w ^ n * v ^ n) 1
  powers_cancel n = mod_trans (mod_eq (sym (mul_pow w v n))) (mod_trans (mod_pow n r.root_inverse) (mod_eq (one_pow n)))

  -- a power of the inverse is congruent to 1 where that of the root is
  inverse_power : (n : ℕ) → Mod q (w ^ n) 1 → Mod q (v ^ n) 1
  inverse_power n h = mod_trans (mod_sym (mod_one_mul (v ^ n) h)) (powers_cancel n)

  -- a power of the root is congruent to 1 where that of the inverse is
  power_inverse : (n : ℕ) → Mod q (v ^ n) 1 → Mod q (w ^ n) 1
  power_inverse n h = mod_trans (mod_sym (mod_one_mul (w ^ n) h)) (rw mul_comm (powers_cancel n))

  -- the inverse of a root is a root of the same order
  pub root_inverse : Root q D v w e
  root_inverse =
      record {
        prime = r.prime;
        some = r.some;
        power = inverse_power D r.power;
        order = λ t low high h. r.order t low high (power_inverse t h);
        root_inverse = rw (mul_comm v w) r.root_inverse;
        size_inverse = r.size_inverse;
      }

  -- w^(k + d) · v^k is not congruent to 1 where 0 < d < D
  powers_differ_shifted : (k d : ℕ) → 0 < d → d < D → Mod q (w ^ (k + d) * v ^ k) 1 → ⊥
  powers_differ_shifted k d low high h =
      let split : w ^ (k + d) * v ^ k ≡ w ^ k * v ^ k * w ^ d = rw pow-add (omega arith) in
      r.order d low high (mod_trans (mod_sym (mod_one_mul (w ^ d) (powers_cancel k))) (rw split at h))

module _ {q D w v e : ℕ} (r : Root q D w v e) where
  -- w^i · v^k is congruent to 1 for no two different i and k below D
  powers_differ : (i k : ℕ) → i < D → k < D → i ≢ k → Mod q (w ^ i * v ^ k) 1 → ⊥
  powers_differ i k low high other h =
      elim (dec_le i k) [
        | yes below ↦ powers_differ_shifted (root_inverse r) i (k - i) (omega arith) (omega arith) (rw (add-sub_of_le, mul_comm) h)
        | no above ↦ let below : k ≤ i = omega arith in powers_differ_shifted r k (i - k) (omega arith) (omega arith) (rw add-sub_of_le h)
      ]

  -- orthogonality at equal places
  pub orthogonal_same : (i : ℕ) → Mod q (sum D (λ m. w ^ (m * i) * v ^ (m * i))) D
  orthogonal_same i =
      mod_trans (mod_sum D (λ m. w ^ (m * i) * v ^ (m * i)) (λ m. 1) (λ m h. powers_cancel r (m * i))) (mod_eq (sum_const D 1 ∙ mul-one D))

  -- orthogonality at different places
  pub orthogonal_other : (i k : ℕ) → i < D → k < D → i ≢ k → Mod q (sum D (λ m. w ^ (m * i) * v ^ (m * k))) 0
  orthogonal_other i k low high other =
      let x : ℕ = w ^ i * v ^ k in
      let s : ℕ = sum D (λ m. x ^ m) in
      let whole : Mod q (x ^ D) 1 =
      rw (← power_term w v i k D, ← pow_mul w, ← pow_mul v)
      (mod_trans (mod_mul (mod_pow i r.power) (mod_pow k (root_inverse r).power)) (mod_eq (simp one_pow))) in
      let fixed : Mod q (s * x) (s * 1) =
      mod_add_cancel 1 (mod_trans (mod_eq (omega (arith, geometric x D))) (mod_trans (mod_add (mod_refl s) whole) (mod_eq (omega arith)))) in
      simp power_term (elim (zero_or_cancel r.prime s fixed) [ inl none ↦ none | inr same ↦ absurd (powers_differ i k low high other same) ])

  -- the sum of x_j times these sums, divided by the size, picks place i of x
  pub root_pick : (x : ℕ → ℕ) (i : ℕ) → i < D → Mod q (e * sum D (λ j. x j * sum D (λ m. w ^ (m * j) * v ^ (m * i)))) (x i)
  root_pick x i h =
      let o : ℕ → ℕ = λ j. sum D (λ m. w ^ (m * j) * v ^ (m * i)) in
      let others : (j : ℕ) → j < D → j ≢ i → Mod q (x j * o j) 0 =
      λ j l d. mod_trans (mod_mul (mod_refl (x j)) (orthogonal_other j i l h d)) (mod_eq (mul-zero (x j))) in
      mod_trans (mod_mul (mod_refl e) (mod_trans (mod_sum_pick D (λ j. x j * o j) i h others) (mod_mul (mod_refl (x i)) (orthogonal_same i))))
      (mod_trans (mod_eq (omega arith)) (mod_one_mul (x i) r.size_inverse))

  -- the transform with the inverse root, divided by the size, undoes the transform
  pub inversion : (x : ℕ → ℕ) (i : ℕ) → i < D → Mod q (e * transform_at D v (transform_at D w x) i) (x i)
  unfolding transform_at
  inversion x i h =
      let swapped : transform_at D v (transform_at D w x) i ≡ sum D (λ j. x j * sum D (λ m. w ^ (m * j) * v ^ (m * i))) =
      simp (← sum_mul_right, ← sum_mul_left, mul_assoc, mul_comm i) (sum_swap D D _) in
      rw swapped (root_pick x i h)
