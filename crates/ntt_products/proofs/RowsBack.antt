-- The rows of a stored vector on the way back, for sets with rows of 256 numbers.
-- Assumes nothing.
use mathlib.Core.Path.{◌≡◌, refl, sym, ap, ◌∙◌}
use mathlib.Core.List.{List}
use Prim.Native.Nat.{ℕ, ◌*◌}
use native.Mathlib.Omega.{arith}
use Rattle.maths.specs.Vector.{at, AllBelow}
use Rattle.maths.specs.Transform.{recover}
use Rattle.sets.specs.declared.Parameters.{Parameters}
use Rattle.sets.specs.Table.{Listed}
use Rattle.sets.specs.Rules.{ByteRules}
use Rattle.sets.specs.Derived.{transform_size_of, transform_root}
use Rattle.ntt.specs.Rows.{RowsReady, InverseRows}
use Rattle.ntt.proofs.Whole.{inverse_below, first_recovered}
use Rattle.ntt_by_row.proofs.Lent.{doubled, scale_of}
use Rattle.ntt_products.specs.Stored.{row_count, size_inverse_of, row_scale, recovered_inverse}
use Rattle.ntt_products.specs.Placed.{RootTables, RowsRecovered}
use Rattle.ntt_products.proofs.Sizes.{size_rows}
use Rattle.ntt_products.proofs.Vectors.{Stored}

module _ (p : Parameters) (bytes : ByteRules p) (known : Listed p) (i : ℕ) where
  -- a row has 256 numbers
  row_256 : p.row ≡ 256
  row_256 = bytes.row_256

  -- the rows together have the size
  pub rows_256 : row_count p i * 256 ≡ transform_size_of p i
  rows_256 = ap (λ (r : ℕ). row_count p i * r) (sym row_256) ∙ size_rows p known i

  module _ {tables old : List ℕ} (lent : RootTables p i tables) (stored : Stored p i old) where
    -- the rows may be taken back
    pub rows_recoverable : RowsReady p.q (row_count p i) tables old × AllBelow (2 * p.q) (row_count p i * 256) old
    rows_recoverable = (
      record { ready = lent.lent.wide row_256; size = stored.size ∙ sym rows_256 },
      rw rows_256 (doubled stored.residues),
    )

    -- the sums of their columns are the first row
    pub rows_recovered : {new : List ℕ} → InverseRows p.q (row_count p i) tables old new → RowsRecovered p i old new
    unfolding recovered_inverse row_scale
    rows_recovered rows =
        let q = p.q in
        let δ = row_count p i in
        let w = transform_root p i in
        let e = size_inverse_of p i in
        record {
          size = rows.size ∙ stored.size;
          below = rw rows_256 at (inverse_below rows);
          first = λ m j h fits.
              first_recovered (lent.lent.wide row_256) (lent.root.wide row_256) e (scale_of q e refl) rows m j (omega (arith, row_256)) h
              ∙ ap (λ (r : ℕ). at (recover q r δ w e m old) j) (sym row_256);
        }
