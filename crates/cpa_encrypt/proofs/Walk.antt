-- The walk over c2: what it asks, and that it adds the message to the sums of correlations.
-- Assumes nothing.
use mathlib.Core.Path.{◌≡◌, sym, ap, ◌∙◌}
use mathlib.Core.List.{List}
use Prim.Native.Nat.{ℕ, ◌+◌, ◌*◌, ◌%◌, ◌≤◌, ◌<◌}
use native.Mathlib.Nat.{mod-lt}
use native.Mathlib.Omega.{arith}
use lib.ListN.{length}
use Rattle.maths.specs.Vector.{at, AllBelow}
use Rattle.maths.proofs.Vector.{tabulate_cong}
use Rattle.sets.specs.declared.Parameters.{Parameters}
use Rattle.sets.specs.Table.{Listed}
use Rattle.sets.specs.Rules.{ByteRules}
use Rattle.sets.specs.Derived.{half_modulus_of, transform_size_of}
use Rattle.sets.proofs.Rules.{listed_rules}
use Rattle.packing.specs.Message.{message_bits_of}
use Rattle.ntt_products.specs.Stored.{row_count, row_scale, recovered_inverse}
use Rattle.ntt_products.specs.Placed.{RowsRecovered}
use Rattle.ntt_products.proofs.Laws.{sizes, rows_256}
use Rattle.c2_walk.specs.Finished.{WalkReady, finished}
use Rattle.cpa_encrypt.specs.Parts.{message_added}

-- the factor at the end is a residue
scale_below : (p : Parameters) (i : ℕ) → 0 < p.q → row_scale p i < p.q
unfolding row_scale
scale_below p i some = mod-lt _ some

module _ (p : Parameters) (bytes : ByteRules p) (known : Listed p) (by half count d : ℕ) (by-is : by ≡ row_scale p 1)
    (half_is : half ≡ half_modulus_of p) (count_is : count ≡ row_count p 1) (d-is : d ≡ p.d) (rows : List ℕ) where
  -- what the walk asks
  pub walk_ready : length rows ≡ transform_size_of p 1
      → AllBelow (2 * p.q) (transform_size_of p 1) rows → WalkReady p.q by half count rows d
  walk_ready size below =
      let kept = listed_rules p known in
      rw (by-is, half_is, count_is, d-is)
      (record {
        by_below = scale_below p 1 (omega (arith, kept.prime.above));
        half_below = omega (arith, kept.odd);
        few_rows = (sizes p known 1).few_rows;
        size = size ∙ sym (rows_256 p bytes known 1);
        below = rw (rows_256 p bytes known 1) below;
        one_row = kept.most_d;
      })

  -- what it gives
  pub walk_added : (sums message : List ℕ) → RowsRecovered p 1 sums rows
      → finished p.q by half count d rows message ≡ message_added p (recovered_inverse p 1 p.d sums) message
  unfolding finished message_added
  walk_added sums message recovered =
      let fits : p.d ≤ p.row = omega (arith, (listed_rules p known).most_d, bytes.row_256) in
      rw (by-is, half_is, count_is, d-is)
      (tabulate_cong p.d _ _
      (λ j h. ap (λ (y : ℕ). (y + half_modulus_of p * at (message_bits_of p.d message) j) % p.q) (recovered.first p.d j h fits)))
