-- Laws of products of polynomials: the middle product as a correlation, and associativity of the correlation.
-- Assumes nothing.
use mathlib.Core.Path.{◌≡◌, sym, ap, ◌∙◌}
use mathlib.Core.List.{List}
use Prim.Native.Nat.{ℕ, suc, ◌+◌, ◌-◌, ◌*◌, ◌%◌, ◌≤◌, ◌<◌}
use native.Mathlib.Nat.{zero-mul, mul-zero, mul_assoc}
use native.Mathlib.Decide.{dec_le}
use native.Mathlib.Omega.{arith}
use lib.ListN.{length, get_or, take}
use lib.Seq.{get_or-take}
use Rattle.maths.specs.Vector.{at, tabulate}
use Rattle.maths.specs.Sum.{sum}
use Rattle.maths.specs.Congruence.{Mod}
use Rattle.maths.specs.Product.{product, middle_product_of, correlation}
use Rattle.maths.proofs.Vector.{at_past, tabulate_length, tabulate_at, tabulate_cong}
use Rattle.maths.proofs.Sum.{sum_cong, sum_zero, sum_reverse, sum_pad, sum_mul_left, sum_mul_right, sum_triangle}
use Rattle.maths.proofs.Congruence.{mod_mul, mod_sum}

-- the numbers of a in reverse order
abbrev pub reversed : List ℕ → ℕ → ℕ
reversed a j = get_or a (length a - 1 - j) 0

-- place p of the product of two vectors
abbrev pub product_at : (ℕ → ℕ) → (ℕ → ℕ) → ℕ → ℕ
product_at x y p = sum (suc p) (λ j. x j * y (p - j))

-- congruent vectors have congruent correlations
pub correlation_mod : {q : ℕ} (n : ℕ) (x u y z : ℕ → ℕ) (i : ℕ) → ((j : ℕ) → j < n → Mod q (x j) (u j)) → ((j : ℕ) → j < n → Mod q (y (i + j)) (z (i + j)))
    → Mod q (correlation n x y i) (correlation n u z i)
unfolding correlation
correlation_mod n x u y z i first second = mod_sum n _ _ (λ j h. mod_mul (first j h) (second j h))

-- the product of vectors of n and m places is 0 past place n + m − 2
pub product_end : (n m : ℕ) (x y : ℕ → ℕ) → ((j : ℕ) → n ≤ j → x j ≡ 0) → ((j : ℕ) → m ≤ j → y j ≡ 0) → (p : ℕ) → n + m ≤ suc p → product_at x y p ≡ 0
product_end n m x y x-end y-end p h =
    sum_zero (suc p) _ (λ j l. elim (dec_le n j) [
      | yes past ↦ rw (x-end j past, zero-mul)
      | no inside ↦ rw (y-end (p - j) (omega arith), mul-zero)
    ])

-- the product of two lists is 0 past the sum of their lengths − 2
pub product_past : (a b : List ℕ) (p : ℕ) → length a + length b ≤ suc p → product a b p ≡ 0
unfolding product
product_past a b p h = product_end (length a) (length b) (at a) (at b) (at_past a) (at_past b) p h

-- a place of the product where all numbers of a count
pub product_places : (a b : List ℕ) (i : ℕ) → 0 < length a → product a b (length a - 1 + i) ≡ sum (length a) (λ j. at a j * at b (length a - 1 + i - j))
unfolding product
product_places a b i some = sum_pad (length a) (suc (length a - 1 + i)) _ (omega arith) (λ j low high. rw (at_past a j low, zero-mul))

-- such a place is a correlation with the numbers of a reversed
pub product_correlation : (a b : List ℕ) (i : ℕ) → 0 < length a → product a b (length a - 1 + i) ≡ correlation (length a) (reversed a) (at b) i
unfolding correlation
product_correlation a b i some =
    product_places a b i some
    ∙ (sum_reverse (length a) _ ∙ sum_cong (length a) _ _ (λ j h. let place : length a - 1 + i - (length a - 1 - j) ≡ i + j = omega arith in rw place))

-- the length of a middle product
pub middle_product_length : (q : ℕ) (a b : List ℕ) (d : ℕ) → length (middle_product_of q a b d) ≡ d
unfolding middle_product_of
middle_product_length q a b d = tabulate_length d _

-- place i of a middle product
pub middle_product_at : (q : ℕ) (a b : List ℕ) (d i : ℕ) → i < d → at (middle_product_of q a b d) i ≡ product a b (length a - 1 + i) % q
unfolding middle_product_of
middle_product_at q a b d i h = tabulate_at d _ i h

-- the middle product is a correlation
pub middle_correlation : (q : ℕ) (a b : List ℕ) (d : ℕ) → 0 < length a
    → middle_product_of q a b d ≡ tabulate d (λ i. correlation (length a) (reversed a) (at b) i % q)
unfolding middle_product_of
middle_correlation q a b d some = tabulate_cong d _ _ (λ i h. rw (product_correlation a b i some))

-- x_j · y_k · z_(i + j + k), summed over the pairs (j, p − j): place p of the product times z
product_term : (x y z : ℕ → ℕ) (i p : ℕ) → product_at x y p * z (i + p) ≡ sum (suc p) (λ j. x j * (y (p - j) * z (i + j + (p - j))))
product_term x y z i p =
    sym (sum_mul_right (suc p) (z (i + p)) _)
    ∙ sum_cong (suc p) _ _ (λ j h.
    let place : i + j + (p - j) ≡ i + p = omega arith in
    rw (place, mul_assoc))

module _ (n m : ℕ) (x y z : ℕ → ℕ) (i : ℕ) (x-end : (j : ℕ) → n ≤ j → x j ≡ 0) (y-end : (j : ℕ) → m ≤ j → y j ≡ 0) where
  -- the row of place j, all m places of y or else zero
  correlation_row : (D : ℕ) → n + m ≤ D → (j : ℕ) → j < D → sum (D - j) (λ k. x j * (y k * z (i + j + k))) ≡ x j * correlation m y z (i + j)
  unfolding correlation
  correlation_row D fits j h =
      simp sum_mul_left (elim (dec_le n j) [
        | yes past ↦ simp (x-end j past, zero-mul)
        | no inside ↦ rw (sum_pad m (D - j) (λ k. y k * z (i + j + k)) (omega arith) (λ k low high. rw (y-end k low, zero-mul)))
      ])

  -- the correlation with a correlation, where the product of x and y has room in D places
  correlation_room : (D : ℕ) → n + m ≤ D → correlation n x (correlation m y z) i ≡ correlation D (product_at x y) z i
  unfolding correlation
  correlation_room D fits =
      sym (sum_cong D _ _ (λ p h. product_term x y z i p) ∙ sum_triangle D (λ j k. x j * (y k * z (i + j + k))) ∙ sum_cong D _ _ (correlation_row D fits)
      ∙ sum_pad n D _ (omega arith) (λ j low high. rw (x-end j low, zero-mul)))

  -- the correlation of x with the correlation of y with z is the correlation of the product of x and y with z
  pub correlation_assoc : (N : ℕ) → n + m ≤ N + 1 → correlation n x (correlation m y z) i ≡ correlation N (product_at x y) z i
  unfolding correlation
  correlation_assoc N fits =
      correlation_room (suc N) (omega arith) ∙ sum_pad N (suc N) _ (omega arith) (λ p low high. rw (product_end n m x y x-end y-end p (omega arith), zero-mul))

-- a correlation reads only the first places of the second vector
pub correlation_front : (n m j : ℕ) (x : ℕ → ℕ) (ys : List ℕ) → j + n ≤ m → correlation n x (at ys) j ≡ correlation n x (at (take m ys)) j
unfolding correlation
correlation_front n m j x ys fits = sum_cong n _ _ (λ l h. ap (λ (y : ℕ). x l * y) (sym (get_or-take m ys (j + l) 0 (omega arith))))
