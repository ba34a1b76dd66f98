-- Laws of finite sums.
-- Assumes nothing.
use mathlib.Core.Path.{◌≡◌, refl, sym, ap}
use mathlib.Core.Logic.{◌≢◌, inl, inr}
use Prim.Native.Nat.{ℕ, zero, suc, ◌+◌, ◌-◌, ◌*◌, ◌≤◌, ◌<◌}
use native.Mathlib.Nat.{eq-or-lt_of_le, mul-zero, zero-mul, suc-mul, mul_comm, add-zero, zero-add, add-suc, le_of_suc-le-suc, le_dest, sub_self}
use native.Mathlib.Omega.{arith}
use Rattle.maths.specs.Sum.{sum}

-- no term
pub sum_none : (f : ℕ → ℕ) → sum 0 f ≡ 0
unfolding sum
sum_none f = refl

-- the last term split off
pub sum_last : (n : ℕ) (f : ℕ → ℕ) → sum (suc n) f ≡ sum n f + f n
unfolding sum
sum_last n f = refl

-- terms that are equal below n give equal sums
pub sum_cong : (n : ℕ) (f g : ℕ → ℕ) → ((i : ℕ) → i < n → f i ≡ g i) → sum n f ≡ sum n g
unfolding sum
sum_cong zero f g e = refl
sum_cong (suc n) f g e = omega (arith, sum_cong n f g (λ i h. e i (omega arith)), e n (omega arith))

-- terms that are at most as large below n give a sum that is at most as large
pub sum_mono : (n : ℕ) (f g : ℕ → ℕ) → ((i : ℕ) → i < n → f i ≤ g i) → sum n f ≤ sum n g
unfolding sum
sum_mono zero f g e = omega arith
sum_mono (suc n) f g e = omega (arith, sum_mono n f g (λ i h. e i (omega arith)), e n (omega arith))

-- the sum of zeros
pub sum_zero : (n : ℕ) (f : ℕ → ℕ) → ((i : ℕ) → i < n → f i ≡ 0) → sum n f ≡ 0
unfolding sum
sum_zero zero f e = refl
sum_zero (suc n) f e = omega (arith, sum_zero n f (λ i h. e i (omega arith)), e n (omega arith))

-- the sum of a constant
pub sum_const : (n c : ℕ) → sum n (λ i. c) ≡ n * c
unfolding sum
sum_const zero c = sym (zero-mul c)
sum_const (suc n) c = omega (arith, sum_const n c)

-- the sum of f + g
pub sum_add : (n : ℕ) (f g : ℕ → ℕ) → sum n (λ i. f i + g i) ≡ sum n f + sum n g
unfolding sum
sum_add zero f g = refl
sum_add (suc n) f g = omega (arith, sum_add n f g)

-- a constant factor on the left
pub sum_mul_left : (n c : ℕ) (f : ℕ → ℕ) → sum n (λ i. c * f i) ≡ c * sum n f
unfolding sum
sum_mul_left zero c f = sym (mul-zero c)
sum_mul_left (suc n) c f = omega (arith, sum_mul_left n c f)

-- a constant factor on the right
pub sum_mul_right : (n c : ℕ) (f : ℕ → ℕ) → sum n (λ i. f i * c) ≡ sum n f * c
unfolding sum
sum_mul_right zero c f = sym (zero-mul c)
sum_mul_right (suc n) c f = omega (arith, sum_mul_right n c f)

-- the first term split off
pub sum_first : (n : ℕ) (f : ℕ → ℕ) → sum (suc n) f ≡ f 0 + sum n (λ i. f (suc i))
unfolding sum
sum_first zero f = omega arith
sum_first (suc n) f = omega (arith, sum_first n f)

-- two sums exchanged
pub sum_swap : (m n : ℕ) (f : ℕ → ℕ → ℕ) → sum m (λ i. sum n (λ j. f i j)) ≡ sum n (λ j. sum m (λ i. f i j))
unfolding sum
sum_swap zero n f = sym (sum_zero n (λ j. 0) (λ i h. refl))
sum_swap (suc m) n f = omega (arith, sum_swap m n f, sum_add n (λ j. sum m (λ i. f i j)) (f m))

-- a sum split in two
pub sum_split : (m n : ℕ) (f : ℕ → ℕ) → sum (m + n) f ≡ sum m f + sum n (λ i. f (m + i))
unfolding sum
sum_split m zero f = simp add-zero
sum_split m (suc n) f = rw add-suc (omega (arith, sum_split m n f))

-- the terms in reverse order
pub sum_reverse : (n : ℕ) (f : ℕ → ℕ) → sum n f ≡ sum n (λ i. f (n - 1 - i))
unfolding sum
sum_reverse zero f = refl
sum_reverse (suc n) f =
    let place : (i : ℕ) → i < n → f (suc (n - 1 - i)) ≡ f (suc n - 1 - i) = λ i h. ap f (omega arith) in
    let last : f 0 ≡ f (suc n - 1 - n) = ap f (omega arith) in
    omega (arith, sum_first n f, sum_reverse n (λ i. f (suc i)), sum_cong n _ (λ i. f (suc n - 1 - i)) place)

-- a sum of d · n terms as d sums of n terms
pub sum_blocks : (d n : ℕ) (f : ℕ → ℕ) → sum (d * n) f ≡ sum d (λ i. sum n (λ j. f (n * i + j)))
unfolding sum
sum_blocks zero n f = rw zero-mul
sum_blocks (suc d) n f = rw (suc-mul, sum_split, sum_blocks d n f, mul_comm d n)

-- one term picked: all the others are zero
pub sum_pick : (n : ℕ) (f : ℕ → ℕ) (k : ℕ) → k < n → ((i : ℕ) → i < n → i ≢ k → f i ≡ 0) → sum n f ≡ f k
unfolding sum
sum_pick zero f k h e = omega arith
sum_pick (suc n) f k h e =
    elim (eq-or-lt_of_le (le_of_suc-le-suc h)) [
      | inl p ↦ rw (sum_zero n f (λ i l. e i (omega arith) (omega arith)), p, zero-add)
      | inr l ↦ omega (arith, sum_pick n f k l (λ i b. e i (omega arith)), e n (omega arith) (omega arith))
    ]

-- zeros past place m do not count
pub sum_pad : (m n : ℕ) (f : ℕ → ℕ) → m ≤ n → ((i : ℕ) → m ≤ i → i < n → f i ≡ 0) → sum n f ≡ sum m f
sum_pad m n f h e =
    let (k, p) = le_dest h in
    rw (← p, sum_split, sum_zero k (λ i. f (m + i)) (λ i l. e (m + i) (omega arith) (omega arith)), add-zero)

-- a sum over the pairs (j, p − j) with j ≤ p < D, by p and by j
pub sum_triangle : (D : ℕ) (f : ℕ → ℕ → ℕ) → sum D (λ p. sum (suc p) (λ j. f j (p - j))) ≡ sum D (λ j. sum (D - j) (λ k. f j k))
sum_triangle zero f = simp sum_none
sum_triangle (suc D) f =
    let column : (j : ℕ) → j < suc D → sum (suc D - j) (f j) ≡ sum (D - j) (f j) + f j (D - j) =
    λ j h. let e : suc D - j ≡ suc (D - j) = omega arith in rw (e, sum_last) in
    let empty : sum (D - D) (f D) ≡ 0 = rw (sub_self, sum_none) in
    omega (
      arith,
      sum_triangle D f,
      sum_last D (λ p. sum (suc p) (λ j. f j (p - j))),
      sum_cong (suc D) (λ j. sum (suc D - j) (f j))
          (λ j. sum (D - j) (f j) + f j (D - j)) column,
      sum_add (suc D) (λ j. sum (D - j) (f j)) (λ j. f j (D - j)),
      sum_last D (λ j. sum (D - j) (f j)),
    )
