-- The exchange of sums by which the secret cancels: the correlations of r_i with b_i, which is the correlation of a_i with s plus e_i, added up,
-- are the correlation of the sum of the products r_i · a_i with s, and those of r_i with e_i.
-- Assumes nothing.
use mathlib.Core.Path.{◌≡◌, ap, ◌∙◌}
use mathlib.Core.List.{List}
use Prim.Native.Nat.{ℕ, ◌+◌, ◌≤◌, ◌<◌}
use native.Mathlib.Nat.{mul-add}
use Rattle.maths.specs.Vector.{at}
use Rattle.maths.specs.Sum.{sum}
use Rattle.maths.specs.Congruence.{Mod}
use Rattle.maths.specs.Product.{product, correlation}
use Rattle.maths.proofs.Sum.{sum_add, sum_cong, sum_swap, sum_mul_right}
use Rattle.maths.proofs.Congruence.{mod_refl, mod_eq, mod_sym, mod_trans, mod_add, mod_sum}
use Rattle.maths.proofs.Product.{correlation_mod, correlation_assoc}

-- the correlation with a sum of two vectors
correlation_add : (n : ℕ) (x y z : ℕ → ℕ) (j : ℕ) → correlation n x (λ l. y l + z l) j ≡ correlation n x y j + correlation n x z j
unfolding correlation
correlation_add n x y z j = simp mul-add (sum_add n _ _)

-- correlations of vectors x_i with one vector, added up, are the correlation of the sum of the x_i with it
correlation_sum : (n t : ℕ) (x : ℕ → ℕ → ℕ) (y : ℕ → ℕ) (j : ℕ)
    → sum t (λ i. correlation n (x i) y j) ≡ correlation n (λ l. sum t (λ i. x i l)) y j
unfolding correlation
correlation_sum n t x y j = sum_swap t n _ ∙ sum_cong n _ _ (λ l h. sum_mul_right t (y (j + l)) (λ i. x i l))

-- the correlation of r with the correlation of a with s, for lists that are 0 past places m and n
correlation_product : (m n N : ℕ) (r a : List ℕ) (s : ℕ → ℕ) (j : ℕ)
    → ((l : ℕ) → m ≤ l → at r l ≡ 0) → ((l : ℕ) → n ≤ l → at a l ≡ 0) → m + n ≤ N + 1
    → correlation m (at r) (correlation n (at a) s) j ≡ correlation N (product r a) s j
unfolding product
correlation_product m n N r a s j r-end a-end fits = correlation_assoc m n (at r) (at a) s j r-end a-end N fits

-- r_i has m places and a_i n, first is the sum of their products modulo q, and b_i the correlation of a_i with s, plus e_i, modulo q
module _ (q m n N t : ℕ) (r a : ℕ → List ℕ) (b e : ℕ → ℕ → ℕ) (s first : ℕ → ℕ) (j : ℕ)
    (r-end : (i l : ℕ) → i < t → m ≤ l → at (r i) l ≡ 0) (a-end : (i l : ℕ) → i < t → n ≤ l → at (a i) l ≡ 0) (fits : m + n ≤ N + 1)
    (key : (i l : ℕ) → i < t → l < m → Mod q (b i (j + l)) (correlation n (at (a i)) s (j + l) + e i (j + l)))
    (sums : (l : ℕ) → l < N → Mod q (first l) (sum t (λ i. product (r i) (a i) l)))
  where
    -- one correlation with b_i
    term : (i : ℕ) → i < t → Mod q (correlation m (at (r i)) (b i) j) (correlation N (product (r i) (a i)) s j + correlation m (at (r i)) (e i) j)
    term i h =
        mod_trans (correlation_mod m (at (r i)) (at (r i)) (b i) (λ x. correlation n (at (a i)) s x + e i x) j (λ l k. mod_refl _) (λ l k. key i l h k))
        (mod_eq (correlation_add m (at (r i)) (correlation n (at (a i)) s) (e i) j
        ∙ ap (λ (x : ℕ). x + correlation m (at (r i)) (e i) j)
        (correlation_product m n N (r i) (a i) s j (λ l k. r-end i l h k) (λ l k. a-end i l h k) fits)))

    -- all of them added up
    pub exchanged : Mod q (sum t (λ i. correlation m (at (r i)) (b i) j)) (correlation N first s j + sum t (λ i. correlation m (at (r i)) (e i) j))
    exchanged =
        mod_trans (mod_sum t _ _ term)
        (mod_trans (mod_eq (sum_add t _ _
        ∙ ap (λ (x : ℕ). x + sum t (λ i. correlation m (at (r i)) (e i) j)) (correlation_sum N t (λ i. product (r i) (a i)) s j)))
        (mod_add (correlation_mod N _ first s s j (λ l k. mod_sym (sums l k)) (λ l k. mod_refl _)) (mod_refl _)))
