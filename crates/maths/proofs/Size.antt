-- Sizes of sums and products of whole numbers, from bounds of their terms and factors.
-- Assumes nothing.
use mathlib.Core.Path.{◌≡◌, ◌∙◌}
use mathlib.Core.List.{List}
use Prim.Native.Nat.{ℕ, zero, suc, ◌+◌, ◌-◌, ◌*◌, ◌≤◌, ◌<◌}
use native.Mathlib.Nat.{mul-le-mul, mul_comm, zero-mul}
use native.Mathlib.Omega.{arith}
use lib.IntN.{ℤ, pos, ◌*ℤ◌, nat_abs}
use lib.ListN.{length, get_or, get_or-eq_default}
use Rattle.maths.specs.Sum.{sum}
use Rattle.maths.specs.Integer.{sum_ℤ, product_ℤ, correlation_ℤ}
use Rattle.maths.proofs.Sum.{sum_mono, sum_mul_left, sum_pad}
use Rattle.maths.proofs.Integer.{nat_abs-+ℤ, nat_abs-*ℤ}

-- the size of a sum is at most the sum of the sizes
nat_abs_sum_ℤ : (n : ℕ) (f : ℕ → ℤ) → nat_abs (sum_ℤ n f) ≤ sum n (λ i. nat_abs (f i))
unfolding sum sum_ℤ
nat_abs_sum_ℤ zero f = omega arith
nat_abs_sum_ℤ (suc n) f = omega (arith, nat_abs-+ℤ (sum_ℤ n f) (f n), nat_abs_sum_ℤ n f)

-- so it is at most the sum of bounds of the terms
pub sum_ℤ_most : (n : ℕ) (f : ℕ → ℤ) (bound : ℕ → ℕ) → ((i : ℕ) → i < n → nat_abs (f i) ≤ bound i) → nat_abs (sum_ℤ n f) ≤ sum n bound
sum_ℤ_most n f bound each = omega (arith, nat_abs_sum_ℤ n f, sum_mono n (λ i. nat_abs (f i)) bound each)

-- the size of a product, from bounds of the factors
pub nat_abs-*ℤ_most : (x y : ℤ) (a b : ℕ) → nat_abs x ≤ a → nat_abs y ≤ b → nat_abs (x *ℤ y) ≤ b * a
nat_abs-*ℤ_most x y a b h k = rw (nat_abs-*ℤ x y, mul_comm b a) (mul-le-mul {n₁ = nat_abs x} {m₁ = nat_abs y} {n₂ = a} {m₂ = b} h k)

-- numbers x of bounds of their own, and numbers y of one bound
module _ (n : ℕ) (x y : List ℤ) (bound : ℕ → ℕ) (most : ℕ) (each : (l : ℕ) → l < n → nat_abs (get_or x l (pos 0)) ≤ bound l) where
  -- the size of a correlation
  pub correlation_ℤ_most : (j : ℕ) → ((l : ℕ) → l < n → nat_abs (get_or y (j + l) (pos 0)) ≤ most) → nat_abs (correlation_ℤ n x y j) ≤ most * sum n bound
  unfolding correlation_ℤ
  correlation_ℤ_most j other =
      rw (← sum_mul_left n most bound)
      (sum_ℤ_most n _ (λ l. most * bound l) (λ l h. nat_abs-*ℤ_most (get_or x l (pos 0)) (get_or y (j + l) (pos 0)) (bound l) most (each l h) (other l h)))

  -- the size of a coefficient of a product, where x has n numbers
  pub product_ℤ_most : length x ≡ n → (l : ℕ) → n ≤ suc l → ((i : ℕ) → i < n → nat_abs (get_or y (l - i) (pos 0)) ≤ most)
      → nat_abs (product_ℤ x y l) ≤ most * sum n bound
  unfolding product_ℤ
  product_ℤ_most size l fits other =
      let term : ℕ → ℤ = λ i. get_or x i (pos 0) *ℤ get_or y (l - i) (pos 0) in
      let past : (i : ℕ) → n ≤ i → i < suc l → nat_abs (term i) ≡ 0 =
      λ i h k. nat_abs-*ℤ (get_or x i (pos 0)) (get_or y (l - i) (pos 0)) ∙ rw (get_or-eq_default x (pos 0) {n = i} (omega arith)) (zero-mul _) in
      let shorter : sum (suc l) (λ i. nat_abs (term i)) ≡ sum n (λ i. nat_abs (term i)) = sum_pad n (suc l) (λ i. nat_abs (term i)) fits past in
      let each-term : (i : ℕ) → i < n → nat_abs (term i) ≤ most * bound i =
      λ i h. nat_abs-*ℤ_most (get_or x i (pos 0)) (get_or y (l - i) (pos 0)) (bound i) most (each i h) (other i h) in
      rw (← sum_mul_left n most bound)
      (omega (arith, nat_abs_sum_ℤ (suc l) term, shorter, sum_mono n (λ i. nat_abs (term i)) (λ i. most * bound i) each-term))
