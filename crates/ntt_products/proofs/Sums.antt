-- Sums over t pairs of vectors, as 003's algorithms 41 and 42 take them: products of stored vectors, place by place, and what they stand for.
-- Assumes nothing.
use mathlib.Core.Path.{◌≡◌, sym, ◌∙◌}
use mathlib.Core.List.{List}
use Prim.Native.Nat.{ℕ, ◌+◌, ◌*◌, ◌%◌, ◌≤◌, ◌<◌}
use native.Mathlib.Nat.{mod-eq_of_lt, mod-lt}
use native.Mathlib.Numerals.{add-one}
use native.Mathlib.Decide.{dec_lt}
use native.Mathlib.Omega.{arith}
use lib.ListN.{length, replicate}
use Rattle.maths.specs.Vector.{at}
use Rattle.maths.specs.Sum.{sum}
use Rattle.maths.specs.Congruence.{Mod}
use Rattle.maths.specs.Product.{product}
use Rattle.maths.proofs.Vector.{tabulate_length, tabulate_at, tabulate_past, tabulate_cong, tabulate_const, tabulate_unique, equal_by_place}
use Rattle.maths.proofs.Sum.{sum_zero}
use Rattle.maths.proofs.Congruence.{mod_refl, mod_eq, mod_add, mod_remainder}
use Rattle.maths.proofs.Product.{product_past}
use Rattle.maths.proofs.Transform.{send_length, send_at, send_products, recover_length, recover_products}
use Rattle.sets.specs.declared.Parameters.{Parameters}
use Rattle.sets.specs.Table.{Listed}
use Rattle.sets.specs.Derived.{transform_size_of}
use Rattle.ntt_products.specs.Stored.{row_count, sent, recovered_inverse, accumulated, totals, summed_products, summed_correlations}
use Rattle.ntt_products.proofs.Pointwise.{accumulated_length, accumulated_at}
use Rattle.ntt_products.proofs.Sizes.{size_rows, some_modulus, rows_root}
use Rattle.ntt_products.proofs.Vectors.{Stored}

module _ (q D : ℕ) (x y : ℕ → List ℕ) where
  -- the length of a total
  pub totals_length : (t : ℕ) → length (totals q D t x y) ≡ D
  unfolding totals
  totals_length t = tabulate_length D _

  -- the number at a place
  pub totals_at : (t k : ℕ) → k < D → at (totals q D t x y) k ≡ sum t (λ j. at (x j) k * at (y j) k) % q
  unfolding totals
  totals_at t k h = tabulate_at D _ k h

  -- the total over no pair is zero
  pub totals_none : 0 < q → totals q D 0 x y ≡ replicate D 0
  unfolding totals sum
  totals_none some = tabulate_cong D _ (λ k. 0) (λ k h. mod-eq_of_lt some) ∙ tabulate_const D 0

  -- one pair more is accumulated
  pub totals_more : (t : ℕ) → accumulated q (totals q D t x y) (x t) (y t) ≡ totals q D (t + 1) x y
  unfolding sum
  totals_more t =
      equal_by_place D _ _ (accumulated_length q _ (x t) (y t) ∙ totals_length t) (totals_length (t + 1))
      (λ k h.
      accumulated_at q (totals q D t x y) (x t) (y t) k (rw (totals_length t) h)
      ∙ rw (totals_at t k h, totals_at (t + 1) k h, add-one) (mod_add (mod_remainder q _) (mod_refl _)).same)

module _ (p : Parameters) (known : Listed p) (i t : ℕ) (x y : ℕ → List ℕ) where
  -- a total has all places of its transform, with a residue at each
  pub totals_placed : Stored p i (totals p.q (transform_size_of p i) t x y)
  totals_placed =
      record {
        size = totals_length _ _ x y t;
        inside = omega arith;
        residues = record { each = λ k h. rw (totals_at _ _ x y t k h) (mod-lt _ (omega (arith, some_modulus p known i))) };
      }

  -- place l of the products added up, which end before place m
  summed_at : (m : ℕ) → ((j : ℕ) → j < t → length (x j) + length (y j) ≤ m + 1) → (l : ℕ)
      → Mod p.q (at (summed_products p.q m t x y) l) (sum t (λ j. product (x j) (y j) l))
  unfolding summed_products
  summed_at m ends l =
      elim (dec_lt l m) [
        | yes h ↦ rw (tabulate_at m (λ k. sum t (λ j. product (x j) (y j) k) % p.q) l h) (mod_remainder p.q _)
        | no h ↦ mod_eq (tabulate_past m _ l (omega arith) ∙ sym (sum_zero t _ (λ j b. product_past (x j) (y j) l (omega (arith, ends j b)))))
      ]

  -- the products of sent vectors, added up place by place, are what is sent of the products of the vectors added up
  pub totals_sent : (m : ℕ) → m ≤ transform_size_of p i → ((j : ℕ) → j < t → length (x j) + length (y j) ≤ m + 1)
      → totals p.q (transform_size_of p i) t (λ j. sent p i (x j)) (λ j. sent p i (y j)) ≡ sent p i
      (summed_products p.q m t x y)
  unfolding sent
  totals_sent m fits ends =
      let rows : row_count p i * p.row ≡ transform_size_of p i = size_rows p known i in
      let z : List ℕ = summed_products p.q m t x y in
      equal_by_place (transform_size_of p i) _ _ (totals_length _ _ _ _ t) (send_length _ _ _ _ z ∙ rows)
      (λ k h.
      totals_at _ _ _ _ t k h
      ∙ (send_products p.q p.row (row_count p i) _ t x y z (λ j b. omega (arith, ends j b)) (λ k l. summed_at m ends k) k
      (omega arith)).same
      ∙ rw (send_at p.q p.row (row_count p i) _ z k (omega arith)) (mod_remainder p.q _).same)

  -- the products of sent vectors with stored ones, added up place by place, recover to the correlations added up
  pub totals_recovered_inverse : (m : ℕ) → m ≤ transform_size_of p i → ((j : ℕ) → j < t → length (x j) + m ≤ transform_size_of p i + 1)
      → recovered_inverse p i m (totals p.q (transform_size_of p i) t (λ j. sent p i (x j)) y) ≡ summed_correlations
      p.q m t x (λ j. recovered_inverse p i (transform_size_of p i) (y j))
  unfolding sent recovered_inverse summed_correlations
  totals_recovered_inverse m fits ends =
      let rows : row_count p i * p.row ≡ transform_size_of p i = size_rows p known i in
      tabulate_unique m _ _ (recover_length _ _ _ _ _ m _)
      (λ l h.
      recover_products p.row (row_count p i) (rows_root p known i) t (transform_size_of p i) m x y _ l h (omega arith)
      (λ j b. omega (arith, ends j b)) (omega arith)
      (λ k b. rw (totals_at p.q (transform_size_of p i) (λ j. sent p i (x j)) y t k (omega arith)) (mod_remainder p.q _)))
