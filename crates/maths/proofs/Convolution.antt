-- Products by transforms: the correlation with a transformed vector, and the product of two polynomials.
-- Assumes nothing.
use mathlib.Core.Path.{◌≡◌, sym, ap, ◌∙◌}
use Prim.Native.Nat.{ℕ, suc, ◌+◌, ◌-◌, ◌*◌, ◌^◌, ◌≤◌, ◌<◌}
use native.Mathlib.Nat.{mul_comm, add-mul, mul_left_comm, zero-mul, add-sub_of_le, mul-add, le_of_suc-le-suc}
use native.Mathlib.Decide.{dec_le}
use native.Mathlib.Omega.{arith}
use lib.Pow.{pow-add}
use Rattle.maths.specs.Sum.{sum}
use Rattle.maths.specs.Congruence.{Mod}
use Rattle.maths.specs.Root.{Root}
use Rattle.maths.specs.Product.{correlation}
use Rattle.maths.specs.Transform.{transform_at}
use Rattle.maths.proofs.Sum.{sum_cong, sum_swap, sum_mul_left, sum_mul_right, sum_pad, sum_triangle}
use Rattle.maths.proofs.Congruence.{mod_refl, mod_mul, mod_sum}
use Rattle.maths.proofs.Root.{root_inverse, inversion}

-- congruent vectors have congruent transforms
pub transform_mod : {q : ℕ} (D w : ℕ) (x y : ℕ → ℕ) (i : ℕ) → ((j : ℕ) → j < D → Mod q (x j) (y j)) → Mod q (transform_at D w x i) (transform_at D w y i)
unfolding transform_at
transform_mod D w x y i e = mod_sum D _ _ (λ j h. mod_mul (e j h) (mod_refl (w ^ (i * j))))

-- zeros past place n do not change the transform
pub transform_pad : (n D w : ℕ) (x : ℕ → ℕ) (i : ℕ) → n ≤ D → ((j : ℕ) → n ≤ j → j < D → x j ≡ 0) → transform_at D w x i ≡ transform_at n w x i
unfolding transform_at
transform_pad n D w x i h e = sum_pad n D (λ j. x j * w ^ (i * j)) h (λ j low high. rw (e j low high, zero-mul))

-- the transform of a product whose first factor is a transform with the same root
pub transform_shift : (D n w : ℕ) (u c : ℕ → ℕ) (i : ℕ) → transform_at D w (λ m. transform_at n w u m * c m) i ≡ sum n (λ j. u j * transform_at D w c (i + j))
unfolding transform_at
transform_shift D n w u c i =
    let term : (m j : ℕ) → u j * w ^ (m * j) * c m * w ^ (i * m) ≡ u j * (c m * w ^ ((i + j) * m)) = λ m j. rw (add-mul, pow-add, mul_comm m j) (omega arith) in
    simp (← sum_mul_right, ← sum_mul_left, term) (sum_swap D n _)

-- the correlation of u with b from the transforms of u with w and of b with the inverse of w
pub correlation_by_transforms : {q D w v e : ℕ} → Root q D w v e → (n : ℕ) (u b : ℕ → ℕ) (i : ℕ) → i + n ≤ D
    → Mod q (e * transform_at D w (λ m. transform_at n w u m * transform_at D v b m) i) (correlation n u b i)
unfolding correlation
correlation_by_transforms {q} {D} {w} {v} {e} r n u b i fits =
    let back : ℕ → ℕ = λ j. transform_at D w (transform_at D v b) (i + j) in
    let term : (j : ℕ) → j < n → Mod q (e * (u j * back j)) (u j * b (i + j)) =
    λ j h. rw mul_left_comm (mod_mul (mod_refl (u j)) (inversion (root_inverse r) b (i + j) (omega arith))) in
    rw (transform_shift D n w u (transform_at D v b) i, ← sum_mul_left) (mod_sum n (λ j. e * (u j * back j)) (λ j. u j * b (i + j)) term)

-- place j of a factor of m places times the part of the other factor that meets it: all n places of that, or else place j is zero
product_row : (D m n : ℕ) (f g : ℕ → ℕ) → m + n ≤ D + 1 → ((j : ℕ) → m ≤ j → f j ≡ 0) → ((j : ℕ) → n ≤ j → g j ≡ 0) → (j : ℕ) → j < D
    → f j * sum (D - j) g ≡ f j * sum D g
product_row D m n f g fits f-end g_end j h =
    elim (dec_le m j) [
      | yes past ↦ simp (f-end j past, zero-mul)
      | no inside ↦ rw (sum_pad (D - j) D g (omega arith) (λ k low high. g_end k (omega arith)))
    ]

-- the coefficients of a product add up to the product of the sums, where the factors have m and n places and the product fits into D
pub sum_product : (D m n : ℕ) (f g : ℕ → ℕ) → m + n ≤ D + 1 → ((j : ℕ) → m ≤ j → f j ≡ 0) → ((j : ℕ) → n ≤ j → g j ≡ 0)
    → sum D (λ p. sum (suc p) (λ j. f j * g (p - j))) ≡ sum D f * sum D g
sum_product D m n f g fits f-end g_end =
    rw (sum_triangle D (λ j k. f j * g k), ← sum_mul_right) (simp sum_mul_left (sum_cong D _ _ (product_row D m n f g fits f-end g_end)))

-- the transform of the product of two polynomials is the product of their transforms, place by place
pub transform_product : (D w m n : ℕ) (u a : ℕ → ℕ) (i : ℕ) → m + n ≤ D + 1 → ((j : ℕ) → m ≤ j → u j ≡ 0) → ((j : ℕ) → n ≤ j → a j ≡ 0)
    → transform_at D w (λ p. sum (suc p) (λ j. u j * a (p - j))) i ≡ transform_at D w u i * transform_at D w a i
unfolding transform_at
transform_product D w m n u a i fits u-end a-end =
    let f : ℕ → ℕ = λ j. u j * w ^ (i * j) in
    let g : ℕ → ℕ = λ j. a j * w ^ (i * j) in
    let term : (p j : ℕ) → j < suc p → u j * a (p - j) * w ^ (i * p) ≡ f j * g (p - j) =
    λ p j h. let e : i * p ≡ i * j + i * (p - j) = sym (ap (λ (x : ℕ). i * x) (add-sub_of_le (le_of_suc-le-suc h)))
    ∙ mul-add i j (p - j) in rw (e, pow-add) (omega arith) in
    let place : (p : ℕ) → p < D → sum (suc p) (λ j. u j * a (p - j)) * w ^ (i * p) ≡ sum (suc p) (λ j. f j * g (p - j)) =
    λ p h. sym (sum_mul_right (suc p) (w ^ (i * p)) (λ j. u j * a (p - j))) ∙ sum_cong (suc p) _ (λ j. f j * g (p - j)) (term p) in
    sum_cong D _ (λ p. sum (suc p) (λ j. f j * g (p - j))) place
    ∙ sum_product D m n f g fits (λ j h. rw (u-end j h, zero-mul)) (λ j h. rw (a-end j h, zero-mul))
