-- A product of stored vectors, place by place, recovers to correlations (003 section 3.2).
-- Assumes nothing.
use mathlib.Core.Path.{◌≡◌, sym, ◌∙◌}
use mathlib.Core.List.{List}
use Prim.Native.Nat.{ℕ, ◌+◌, ◌*◌, ◌%◌, ◌≤◌, ◌<◌}
use native.Mathlib.Nat.{mod-lt}
use native.Mathlib.Omega.{arith}
use lib.ListN.{length, take}
use lib.Seq.{length-take-le, get_or-take}
use Rattle.maths.specs.Vector.{at, tabulate, AllBelow}
use Rattle.maths.specs.Product.{correlation}
use Rattle.maths.specs.Congruence.{Mod}
use Rattle.maths.proofs.Vector.{tabulate_at, tabulate_unique}
use Rattle.maths.specs.Transform.{recover}
use Rattle.maths.proofs.Congruence.{mod_eq}
use Rattle.maths.proofs.Transform.{recover_length, recover_product}
use Rattle.sets.specs.declared.Parameters.{Parameters}
use Rattle.sets.specs.Table.{Listed}
use Rattle.sets.specs.Rules.{Rules}
use Rattle.sets.specs.Derived.{transform_size_of, transform_root}
use Rattle.sets.proofs.Rules.{listed_rules}
use Rattle.montgomery.specs.Scaled.{scale}
use Rattle.ntt_products.specs.Stored.{row_count, size_inverse_of, sent, recovered_inverse, products, correlations}
use Rattle.ntt_products.specs.Placed.{Placed, SetLent, SetTables}
use Rattle.ntt_products.proofs.Pointwise.{products_at}
use Rattle.ntt_products.proofs.Sizes.{size_rows, some_modulus, rows_root, rules_odd}
use Rattle.ntt_products.proofs.Scaling.{recover_scaled, unscaled_product}
use Rattle.ntt_products.proofs.Vectors.{sent_placed, products_placed}
use Rattle.ntt_products.proofs.Recovered.{recovered_inverse_take}

module _ (p : Parameters) (known : Listed p) (i : ℕ) where
  -- what is congruent, place by place, to the products of a sent vector with a stored one recovers to correlations
  correlations_first : (x stored z : List ℕ) (m : ℕ) → 0 < length x → length x + m ≤ transform_size_of p i + 1
      → ((k : ℕ) → k < transform_size_of p i → Mod p.q (at z k) (at (sent p i x) k * at stored k))
      → take m (recovered_inverse p i (transform_size_of p i) z) ≡ correlations p.q x
      (recovered_inverse p i (transform_size_of p i) stored) m
  unfolding sent recovered_inverse correlations
  correlations_first x stored z m some fits same =
      let D : ℕ = transform_size_of p i in
      let ρ : ℕ = p.row in
      let rows : row_count p i * ρ ≡ D = size_rows p known i in
      tabulate_unique m _ _ (length-take-le m _ (rw recover_length (omega arith)))
      (λ j h. get_or-take m _ j 0 h
      ∙ recover_product ρ (row_count p i) (rows_root p known i) D D x stored z j (omega arith) (omega arith) (omega arith) (omega arith)
      (λ k l. same k (omega arith)))

  -- the first n numbers sent, multiplied by a stored vector, which is taken for numbers in scaled form, and recovered with the scaled inverse of the size
  pub correlated : (n m : ℕ) (old stored : List ℕ) → 0 < n → Placed p i n old → n + m ≤ transform_size_of p i + 1
      → recover p.q p.row (row_count p i) (transform_root p i) (scale p.q (size_inverse_of p i)) m
      (products p.q (sent p i (take n old)) stored)
      ≡ correlations p.q (take n old) (recovered_inverse p i (transform_size_of p i) stored) m
  unfolding recovered_inverse
  correlated n m old stored some placed fits =
      let q : ℕ = p.q in
      let D : ℕ = transform_size_of p i in
      let x : List ℕ = sent p i (take n old) in
      let whole : List ℕ = tabulate D (λ k. at x k * at stored k) in
      let rows : row_count p i * p.row ≡ D = size_rows p known i in
      let size : length x ≡ D = (sent_placed p known i (take n old)).size in
      let short : length (take n old) ≡ n = length-take-le n old (omega (arith, placed.size, placed.inside)) in
      recover_scaled (rules_odd p (listed_rules p known)) p.row (row_count p i) (transform_root p i)
      (size_inverse_of p i) m (products q x stored) whole (omega arith)
      (λ k h.
      let inside : k < D = omega arith in
      rw (products_at q x stored k (omega arith), tabulate_at D (λ l. at x l * at stored l) k inside) (unscaled_product q (at x k) (at stored k)))
      ∙ sym (recovered_inverse_take p i m whole (omega arith))
      ∙ correlations_first (take n old) stored whole m (omega arith) (omega arith) (λ k h. mod_eq (tabulate_at D (λ l. at x l * at stored l) k h))

  -- e is the scaled inverse of the size, and new is a vector of products
  module _ (n : ℕ) (old stored : List ℕ) {e : ℕ} {new tables : List ℕ} (scaled : e ≡ scale p.q (size_inverse_of p i))
      (made : new ≡ products p.q (sent p i (take n old)) stored) where
    -- it may be recovered
    pub products_recoverable : {m : ℕ} → SetLent p i tables → m ≤ transform_size_of p i
        → Rules p × SetLent p i tables × Placed p i (transform_size_of p i) new × (e < p.q) × (m ≤ transform_size_of p i)
    unfolding scale
    products_recoverable lent fits =
        rw (scaled, made) (
          listed_rules p known,
          lent,
          products_placed p known i stored (sent_placed p known i (take n old)),
          mod-lt _ (omega (arith, some_modulus p known i)),
          fits,
        )

    -- and gives the correlations
    pub products_recovered : (m : ℕ) (out : List ℕ) → SetTables p i (transform_root p i) tables
        → ((w : ℕ) → SetTables p i w tables → take m out ≡ recover p.q p.row (row_count p i) w e m new) → 0 < n → Placed p i n old
        → n + m ≤ transform_size_of p i + 1
        → take m out ≡ correlations p.q (take n old) (recovered_inverse p i (transform_size_of p i) stored) m
    products_recovered m out root recovered some placed fits =
        (rw (scaled, made) at recovered) _ root ∙ correlated n m old stored some placed fits

  -- correlations are residues
  pub correlations_below : (x y : List ℕ) (m : ℕ) → AllBelow p.q m (correlations p.q x y m)
  unfolding correlations
  correlations_below x y m =
      record {
        each = λ j h. rw (tabulate_at m (λ l. correlation (length x) (at x) (at y) l % p.q) j h) (mod-lt _ (omega
            (arith, some_modulus p known i)));
      }
