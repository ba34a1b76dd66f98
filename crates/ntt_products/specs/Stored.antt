-- Vectors as a set's transforms store them, and the products that go through them (003 section 3.2; algorithms 40 to 42).
-- Assumes nothing.
use Rattle.std.specs.Prelude.{◌≡◌, refl, List, [], ◌∷◌, map, ℕ, ◌+◌, ◌*◌, ◌/◌, ◌%◌, ◌^◌, length}
use Rattle.maths.specs.Vector as vectors
use Rattle.maths.specs.Vector.{at, tabulate}
use Rattle.maths.specs.Sum as sums
use Rattle.maths.specs.Sum.{sum}
use Rattle.maths.specs.Root as roots
use Rattle.maths.specs.Root.{power_table, inverse_root, inverse_size}
use Rattle.maths.specs.Product as polynomials
use Rattle.maths.specs.Product.{product, correlation}
use Rattle.maths.specs.Transform as transforms
use Rattle.maths.specs.Transform.{send, recover}
use Rattle.montgomery.specs.Scaled as scaled
use Rattle.montgomery.specs.Scaled.{unscale}
use Rattle.sets.specs.declared.Parameters.{Parameters}
use Rattle.sets.specs.Table as tables
use Rattle.sets.specs.Table.{set_of}
use Rattle.sets.specs.Derived as derived
use Rattle.sets.specs.Derived.{transform_size_of, transform_root}

-- the rows of transform number i, each of δ2 numbers
abbrev pub row_count : Parameters → ℕ → ℕ
row_count p i = transform_size_of p i / p.row

-- the inverse of root number i, and of its transform size, modulo q
unfoldable pub root_inverse_of : Parameters → ℕ → ℕ
root_inverse_of p i = inverse_root p.q (transform_size_of p i) (transform_root p i)

unfoldable pub size_inverse_of : Parameters → ℕ → ℕ
size_inverse_of p i = inverse_size p.q (transform_size_of p i)

-- the latter with the factor 2^64 that the rows of an inverse transform leave to its end
unfoldable pub row_scale : Parameters → ℕ → ℕ
row_scale p i = size_inverse_of p i * (2 ^ 64 % p.q) % p.q

-- the powers of the inverse of root number i, one for each place of its transform
unfoldable pub inverse_powers : Parameters → ℕ → List ℕ
inverse_powers p i = power_table p.q (root_inverse_of p i) (transform_size_of p i)

-- a vector as it is stored, transformed with root number i
unfoldable pub sent : Parameters → ℕ → List ℕ → List ℕ
sent p i xs = send p.q p.row (row_count p i) (transform_root p i) xs

-- the same with the inverse of the root
unfoldable pub sent_inverse : Parameters → ℕ → List ℕ → List ℕ
sent_inverse p i xs = send p.q p.row (row_count p i) (root_inverse_of p i) xs

-- the first m numbers of a vector that is stored with the inverse of the root
unfoldable pub recovered_inverse : Parameters → ℕ → ℕ → List ℕ → List ℕ
recovered_inverse p i m xs = recover p.q p.row (row_count p i) (transform_root p i) (size_inverse_of p i) m xs

-- the first m numbers of a vector that is stored with the root
unfoldable pub recovered : Parameters → ℕ → ℕ → List ℕ → List ℕ
recovered p i m xs = recover p.q p.row (row_count p i) (root_inverse_of p i) (size_inverse_of p i) m xs

-- the first m correlations of x with y modulo q: place j is the sum of x_l · y_(j + l)
unfoldable pub correlations : ℕ → List ℕ → List ℕ → ℕ → List ℕ
correlations q x y m = tabulate m (λ j. correlation (length x) (at x) (at y) j % q)

-- the products modulo q of x and what y is the scaled form of, place by place
unfoldable pub products : ℕ → List ℕ → List ℕ → List ℕ
products q x y = tabulate (length x) (λ k. at x k * unscale q (at y k) % q)

-- what the numbers of x are the scaled forms of
unfoldable pub unscaled : ℕ → List ℕ → List ℕ
unscaled q x = map (unscale q) x

-- the products of x and y, each added to the number of a total at its place
unfoldable pub accumulated : ℕ → List ℕ → List ℕ → List ℕ → List ℕ
accumulated q total x y = tabulate (length total) (λ k. (at total k + at x k * at y k) % q)

-- what is accumulated over t pairs: at each of D places the sum of the products of x_j and y_j there, modulo q
unfoldable pub totals : ℕ → ℕ → ℕ → (ℕ → List ℕ) → (ℕ → List ℕ) → List ℕ
totals q D t x y = tabulate D (λ k. sum t (λ j. at (x j) k * at (y j) k) % q)

-- the first m numbers of the products of the polynomials x_j and y_j, added up over t pairs, modulo q
unfoldable pub summed_products : ℕ → ℕ → ℕ → (ℕ → List ℕ) → (ℕ → List ℕ) → List ℕ
summed_products q m t x y = tabulate m (λ l. sum t (λ j. product (x j) (y j) l) % q)

-- the first m correlations of x_j with y_j, added up over t pairs, modulo q
unfoldable pub summed_correlations : ℕ → ℕ → ℕ → (ℕ → List ℕ) → (ℕ → List ℕ) → List ℕ
summed_correlations q m t x y = tabulate m (λ l. sum t (λ j. correlation (length (x j)) (at (x j)) (at (y j)) l) % q)

-- bench figure 6, and back
sent_example : sent (set_of 0) 3 (1 ∷ 2 ∷ 3 ∷ 4 ∷ []) ≡ 10 ∷ 7 ∷ 15 ∷ 6 ∷ []
unfolding tables.set_of tables.table derived.transform_size_of derived.transform_root sent transforms.send transforms.perm transforms.transform
    transforms.transform_at
    sums.sum vectors.tabulate
sent_example = refl

recovered_example : recovered (set_of 0) 3 3 (10 ∷ 7 ∷ 15 ∷ 6 ∷ []) ≡ 1 ∷ 2 ∷ 3 ∷ []
unfolding tables.set_of tables.table derived.transform_size_of derived.transform_root root_inverse_of roots.inverse_root size_inverse_of roots.inverse_size
    recovered
    transforms.recover transforms.inv_perm transforms.scaled_transform transforms.transform_at sums.sum vectors.tabulate
recovered_example = refl

-- bench figure 1, where 5, 3 is 3, 5 reversed
correlations_example : correlations 17 (5 ∷ 3 ∷ []) (1 ∷ 2 ∷ 3 ∷ 4 ∷ []) 3 ≡ 11 ∷ 2 ∷ 10 ∷ []
unfolding correlations polynomials.correlation sums.sum vectors.tabulate
correlations_example = refl

-- 6 is the scaled form of 5 modulo 7
products_example : products 7 (3 ∷ []) (6 ∷ []) ≡ 1 ∷ []
unfolding products vectors.tabulate scaled.unscale
products_example = refl

unscaled_example : unscaled 7 (6 ∷ 4 ∷ []) ≡ 5 ∷ 1 ∷ []
unfolding unscaled scaled.unscale
unscaled_example = refl

accumulated_example : accumulated 17 (1 ∷ 2 ∷ []) (3 ∷ 4 ∷ []) (5 ∷ 6 ∷ []) ≡ 16 ∷ 9 ∷ []
unfolding accumulated vectors.tabulate
accumulated_example = refl
