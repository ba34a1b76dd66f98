-- Laws of lists given by a formula.
-- Assumes nothing.
use mathlib.Core.Path.{◌≡◌, refl, sym, ◌∙◌}
use mathlib.Core.List.{List, [], ◌∷◌, ◌++◌, map, append_assoc, append-nil}
use mathlib.Core.Logic.{inl, inr}
use Prim.Native.Nat.{ℕ, zero, suc, ◌+◌, ◌≤◌, ◌<◌}
use native.Mathlib.Nat.{eq-or-lt_of_le, le_of_suc-le-suc, add-zero, add-suc, add-sub_of_le}
use native.Mathlib.Omega.{arith}
use lib.ListN.{length, get_or, take, replicate, length-append, length-replicate, get_or-replicate, get_or-append, get_or-eq_default}
use lib.Seq.{ext_get_or, get_or_at, take_at}
use Rattle.maths.specs.Vector.{at, tabulate}

-- the length
pub tabulate_length : (n : ℕ) (f : ℕ → ℕ) → length (tabulate n f) ≡ n
unfolding tabulate
tabulate_length zero f = refl
tabulate_length (suc n) f = rw length-append (omega (arith, tabulate_length n f))

-- the number at a place
pub tabulate_at : (n : ℕ) (f : ℕ → ℕ) (i : ℕ) → i < n → get_or (tabulate n f) i 0 ≡ f i
unfolding tabulate
tabulate_at zero f i h = omega arith
tabulate_at (suc n) f i h =
    elim (eq-or-lt_of_le (le_of_suc-le-suc h)) [
      | inl last ↦ rw last (get_or_at (tabulate n f) (f n) [] 0 n (tabulate_length n f))
      | inr before ↦ get_or-append (tabulate n f) (f n ∷ []) 0 i (rw (tabulate_length n f) before) ∙ tabulate_at n f i before
    ]

-- past the end of a list there is 0
pub at_past : (xs : List ℕ) (i : ℕ) → length xs ≤ i → at xs i ≡ 0
at_past xs i h = get_or-eq_default xs 0 h

-- past the end of a list given by a formula there is 0
pub tabulate_past : (n : ℕ) (f : ℕ → ℕ) (i : ℕ) → n ≤ i → get_or (tabulate n f) i 0 ≡ 0
tabulate_past n f i h = at_past (tabulate n f) i (rw (tabulate_length n f) h)

-- formulas that are equal below n give equal lists
pub tabulate_cong : (n : ℕ) (f g : ℕ → ℕ) → ((i : ℕ) → i < n → f i ≡ g i) → tabulate n f ≡ tabulate n g
unfolding tabulate
tabulate_cong zero f g e = refl
tabulate_cong (suc n) f g e = rw (tabulate_cong n f g (λ i h. e i (omega arith)), e n (omega arith))

-- two lists of length n with the same numbers
pub equal_by_place : (n : ℕ) (xs ys : List ℕ) → length xs ≡ n → length ys ≡ n → ((i : ℕ) → i < n → get_or xs i 0 ≡ get_or ys i 0) → xs ≡ ys
equal_by_place n xs ys first second same = ext_get_or 0 xs ys (first ∙ sym second) (λ i h. same i (omega arith))

-- a list with the length n and the numbers of a formula
pub tabulate_unique : (n : ℕ) (f : ℕ → ℕ) (xs : List ℕ) → length xs ≡ n → ((i : ℕ) → i < n → get_or xs i 0 ≡ f i) → xs ≡ tabulate n f
tabulate_unique n f xs size value = equal_by_place n xs (tabulate n f) size (tabulate_length n f) (λ i h. value i h ∙ sym (tabulate_at n f i h))

-- a list is given by its own places
pub tabulate_self : (n : ℕ) (xs : List ℕ) → length xs ≡ n → xs ≡ tabulate n (at xs)
tabulate_self n xs size = tabulate_unique n (at xs) xs size (λ i h. refl)

-- the first m places, then n more
pub tabulate_append : (m n : ℕ) (f : ℕ → ℕ) → tabulate (m + n) f ≡ tabulate m f ++ tabulate n (λ i. f (m + i))
unfolding tabulate
tabulate_append m zero f = rw (add-zero, append-nil)
tabulate_append m (suc n) f = rw (add-suc, tabulate_append m n f, append_assoc)

-- the first m of n places
pub tabulate_take : (m n : ℕ) (f : ℕ → ℕ) → m ≤ n → take m (tabulate n f) ≡ tabulate m f
tabulate_take m n f h = rw (← add-sub_of_le h, tabulate_append) (take_at (tabulate m f) _ m (tabulate_length m f))

-- place i after a function is applied to each number
pub map_at : (g : ℕ → ℕ) (xs : List ℕ) (i : ℕ) → i < length xs → get_or (map g xs) i 0 ≡ g (get_or xs i 0)
map_at g [] i h = omega arith
map_at g (x ∷ xs) zero h = refl
map_at g (x ∷ xs) (suc i) h = map_at g xs i (le_of_suc-le-suc h)

-- a constant formula
pub tabulate_const : (n c : ℕ) → tabulate n (λ i. c) ≡ replicate n c
tabulate_const n c = sym (tabulate_unique n (λ i. c) (replicate n c) (length-replicate n c) (λ i h. get_or-replicate n i c 0 h))
