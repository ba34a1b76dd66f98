-- Products of polynomials and the middle product (003 section 2.1.1 and theorem 3.2.1; 01, Arithmetic). A polynomial is the list of its coefficients.
-- Assumes nothing.
use Rattle.std.specs.Prelude.{◌≡◌, refl, List, [], ◌∷◌, ℕ, suc, ◌+◌, ◌-◌, ◌*◌, ◌%◌, length}
use Rattle.maths.specs.Vector.{at, tabulate}
use Rattle.maths.specs.Sum.{sum}

-- the coefficient at place p of the product of a and b: the sum of a_j · b_(p − j)
unfoldable pub product : List ℕ → List ℕ → ℕ → ℕ
product a b p = sum (suc p) (λ j. at a j * at b (p - j))

-- the middle product of a and b with d results: place i is place (length of a − 1 + i) of the product, modulo q
unfoldable pub middle_product_of : ℕ → List ℕ → List ℕ → ℕ → List ℕ
middle_product_of q a b d = tabulate d (λ i. product a b (length a - 1 + i) % q)

-- the correlation of x with y at place i: the sum of x_j · y_(i + j) over the n places of x (003 writes Rev(x) ⊙ y for it)
unfoldable pub correlation : ℕ → (ℕ → ℕ) → (ℕ → ℕ) → ℕ → ℕ
correlation n x y i = sum n (λ j. x j * y (i + j))

product_example : product (3 ∷ 5 ∷ []) (1 ∷ 2 ∷ 3 ∷ 4 ∷ []) 1 ≡ 11
unfolding product sum
product_example = refl

-- bench figure 1
middle_product_example : middle_product_of 17 (3 ∷ 5 ∷ []) (1 ∷ 2 ∷ 3 ∷ 4 ∷ []) 3 ≡ 11 ∷ 2 ∷ 10 ∷ []
unfolding middle_product_of product sum tabulate
middle_product_example = refl
