-- The correlation of whole numbers is the middle product with the first factor reversed: 003's Rev(x) ⊙ y beside 01's middle product.
-- Assumes nothing.
use mathlib.Core.Path.{◌≡◌, refl, sym, ap, ◌∙◌}
use mathlib.Core.List.{List, [], ◌∷◌, ◌++◌, reverse, reverse-cons}
use Prim.Native.Nat.{ℕ, zero, suc, ◌+◌, ◌-◌, ◌≤◌, ◌<◌}
use native.Mathlib.Nat.{add-zero}
use native.Mathlib.Decide.{dec_lt}
use native.Mathlib.Omega.{arith}
use lib.IntN.{ℤ, pos, ◌+ℤ◌, ◌*ℤ◌, +ℤ_assoc, +ℤ_comm, +ℤ_idr, zero-*ℤ}
use lib.ListN.{length, get_or, length-reverse, get_or-append, get_or-eq_default}
use lib.Seq.{get_or-append_seam}
use Rattle.maths.specs.Integer.{sum_ℤ, product_ℤ, correlation_ℤ}
use Rattle.maths.proofs.Integer.{sum_ℤ_last, sum_ℤ_cong}

-- place i of a reversed list
pub get_d_reverse : {A : Type 0} (xs : List A) (d : A) (i : ℕ) → i < length xs → get_or (reverse xs) i d ≡ get_or xs (length xs - 1 - i) d
get_d_reverse [] d i h = absurd (omega arith)
get_d_reverse {A} (x ∷ xs) d i h =
    ap (λ (l : List A). get_or l i d) (reverse-cons x xs) ∙ elim (dec_lt i (length xs)) [
      | yes inside ↦
          get_or-append (reverse xs) (x ∷ []) d i (omega (arith, length-reverse xs))
          ∙ get_d_reverse xs d i inside
          ∙ ap (λ (k : ℕ). get_or (x ∷ xs) k d) (next inside)
      | no past ↦
          ap (λ (k : ℕ). get_or (reverse xs ++ (x ∷ [])) k d) (last past)
          ∙ get_or-append_seam (reverse xs) x [] d
          ∙ ap (λ (k : ℕ). get_or (x ∷ xs) k d) (first past)
    ]
  where
    next : i < length xs → suc (length xs - 1 - i) ≡ length (x ∷ xs) - 1 - i
    next inside = omega arith

    last : (i < length xs → ⊥) → i ≡ length (reverse xs)
    last past = omega (arith, length-reverse xs)

    first : (i < length xs → ⊥) → 0 ≡ length (x ∷ xs) - 1 - i
    first past = omega arith

-- the first term of a sum apart
sum_ℤ_first : (n : ℕ) (f : ℕ → ℤ) → sum_ℤ (suc n) f ≡ f 0 +ℤ sum_ℤ n (λ i. f (suc i))
unfolding sum_ℤ
sum_ℤ_first zero f = +ℤ_comm (pos 0) (f 0)
sum_ℤ_first (suc n) f = ap (λ (z : ℤ). z +ℤ f (suc n)) (sum_ℤ_first n f) ∙ +ℤ_assoc (f 0) (sum_ℤ n (λ i. f (suc i))) (f (suc n))

-- a sum from its last term to its first
sum_ℤ_reverse : (n : ℕ) (f : ℕ → ℤ) → sum_ℤ n f ≡ sum_ℤ n (λ i. f (n - 1 - i))
unfolding sum_ℤ
sum_ℤ_reverse zero f = refl
sum_ℤ_reverse (suc n) f =
    let place : (i : ℕ) → i < n → f (suc (n - 1 - i)) ≡ f (suc n - 1 - i) = λ i h. ap f (omega arith) in
    let last : f 0 ≡ f (suc n - 1 - n) = ap f (omega arith) in
    sum_ℤ_first n f
    ∙ +ℤ_comm (f 0) (sum_ℤ n (λ i. f (suc i)))
    ∙ ap (λ (z : ℤ). z +ℤ f 0) (sum_ℤ_reverse n (λ i. f (suc i)) ∙ sum_ℤ_cong n _ (λ i. f (suc n - 1 - i)) place)
    ∙ ap (λ (z : ℤ). sum_ℤ n (λ i. f (suc n - 1 - i)) +ℤ z) last

-- terms that are 0 past place m do not count
sum_ℤ_more : (m k : ℕ) (f : ℕ → ℤ) → ((i : ℕ) → m ≤ i → f i ≡ pos 0) → sum_ℤ (m + k) f ≡ sum_ℤ m f
sum_ℤ_more m zero f zeros = rw add-zero
sum_ℤ_more m (suc k) f zeros =
    let more : m + suc k ≡ suc (m + k) = omega arith in
    rw more (sum_ℤ_last (m + k) f ∙ ap (λ (z : ℤ). sum_ℤ (m + k) f +ℤ z) (zeros (m + k) (omega arith)) ∙ +ℤ_idr (sum_ℤ (m + k) f) ∙ sum_ℤ_more m k f zeros)

-- the middle product over whole numbers, with the first factor reversed
pub correlation_ℤ_middle : (x y : List ℤ) (j : ℕ) → 0 < length x → correlation_ℤ (length x) x y j ≡ product_ℤ (reverse x) y (length x - 1 + j)
unfolding correlation_ℤ product_ℤ
correlation_ℤ_middle x y j some =
    let n : ℕ = length x in
    let l : ℕ = n - 1 + j in
    let term : ℕ → ℤ = λ i. get_or (reverse x) i (pos 0) *ℤ get_or y (l - i) (pos 0) in
    let past : (i : ℕ) → n ≤ i → term i ≡ pos 0 =
    λ i h. ap (λ (z : ℤ). z *ℤ get_or y (l - i) (pos 0)) (get_or-eq_default (reverse x) (pos 0) {n = i} (omega (arith, length-reverse x)))
    ∙ zero-*ℤ (get_or y (l - i) (pos 0)) in
    let size : suc l ≡ n + j = omega arith in
    let each : (i : ℕ) → i < n → get_or x i (pos 0) *ℤ get_or y (j + i) (pos 0) ≡ term (n - 1 - i) = λ i h.
    let back : n - 1 - (n - 1 - i) ≡ i = omega arith in
    let place : l - (n - 1 - i) ≡ j + i = omega arith in
    sym (rw (get_d_reverse x (pos 0) (n - 1 - i) (omega arith), back, place)) in
    sum_ℤ_cong n _ (λ i. term (n - 1 - i)) each ∙ sym (sum_ℤ_reverse n term) ∙ sym (sum_ℤ_more n j term past) ∙ ap (λ (k : ℕ). sum_ℤ k term) (sym size)
