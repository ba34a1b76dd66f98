-- The arrays have room for the largest transform of every set, and for its tables.
-- Assumes nothing.
use mathlib.Core.Path.{◌∙◌}
use native.Mathlib.Omega.{arith}
use Rattle.sets.proofs.Rules.{listed_rules}
use Rattle.sets.proofs.Transforms.{size_most}
use Rattle.calls.proofs.Parts.{array_front}
use Rattle.ntt_products.proofs.Laws.{table_most}
use Rattle.cpa_keygen.proofs.vectors.store_vectors.Goals as goal

pub slice_bounds-tables-end : goal.slice_bounds-tables-end
slice_bounds-tables-end c =
    omega (arith, c.table_length-third.ensures, table_most c.args.p c.requires.1 3)

pub slice_bounds-inverse_tables-end : goal.slice_bounds-inverse_tables-end
slice_bounds-inverse_tables-end c =
    omega (arith, c.table_length-first.ensures, table_most c.args.p c.requires.1 1)

pub slice_bounds-x-end : goal.slice_bounds-x-end
slice_bounds-x-end c =
    omega (arith, c.transform_size-size.ensures, size_most c.args.p (listed_rules _ c.requires.1) 3)

pub vectors_with_buffers-requires : goal.vectors_with_buffers-requires
vectors_with_buffers-requires c =
    let p = c.args.p in
    let pre = c.requires in
    let third = c.table_length-third in
    let first = c.table_length-first in
    let size = c.transform_size-size in (
      pre.0,
      pre.1,
      array_front 3605 third.result (omega (arith, third.ensures, table_most p pre.1 3)) ∙ third.ensures,
      array_front 3605 first.result (omega (arith, first.ensures, table_most p pre.1 1)) ∙ first.ensures,
      array_front 3328 size.result (omega (arith, size.ensures, size_most p (listed_rules p pre.1) 3)) ∙ size.ensures,
      pre.2,
    )
