-- The arrays have room for the tables and the second transform of every set.
-- Assumes nothing.
use mathlib.Core.Path.{◌∙◌}
use Prim.Native.Nat.{◌≤◌}
use native.Mathlib.Omega.{arith}
use Rattle.sets.proofs.Rules.{listed_rules}
use Rattle.sets.proofs.Transforms.{size_most}
use Rattle.ntt_products.proofs.Laws.{table_most}
use Rattle.calls.proofs.Parts.{array_front}
use Rattle.cpa_encrypt.proofs.first.encrypt_first.Goals.{After-table_length-length}
use Rattle.cpa_encrypt.proofs.first.encrypt_first.Goals as goal

-- the tables fit their array
tables_fit : (c : After-table_length-length) → c.table_length-length.result ≤ 3605
tables_fit c = rw c.table_length-length.ensures (table_most c.args.p c.requires.1 2)

-- and so do the vectors
vectors_fit : (c : After-table_length-length) → c.transform_size-size.result ≤ 3328
vectors_fit c = rw c.transform_size-size.ensures (size_most c.args.p (listed_rules c.args.p c.requires.1) 2)

pub slice_bounds-tables-end : goal.slice_bounds-tables-end
slice_bounds-tables-end c = omega (arith, tables_fit (goal.at.slice_bounds-tables-end c).After-table_length-length)

pub slice_bounds-total-end : goal.slice_bounds-total-end
slice_bounds-total-end c = omega (arith, vectors_fit (goal.at.slice_bounds-total-end c).After-table_length-length)

pub slice_bounds-x-end : goal.slice_bounds-x-end
slice_bounds-x-end c = omega (arith, vectors_fit (goal.at.slice_bounds-x-end c).After-table_length-length)

pub slice_bounds-y-end : goal.slice_bounds-y-end
slice_bounds-y-end c = omega (arith, vectors_fit (goal.at.slice_bounds-y-end c).After-table_length-length)

pub first_with_buffers-requires : goal.first_with_buffers-requires
first_with_buffers-requires c =
    let pre = c.requires in
    let table = array_front 3605 c.table_length-length.result (tables_fit (goal.at.first_with_buffers-requires c).After-table_length-length)
    ∙ c.table_length-length.ensures in
    let long = array_front 3328 c.transform_size-size.result (vectors_fit (goal.at.first_with_buffers-requires c).After-table_length-length)
    ∙ c.transform_size-size.ensures in
    (pre.0, pre.1, pre.2, pre.3, table, long, long, long)
