-- The arrays have room for the tables and the largest transform of every set.
-- Assumes nothing.
use mathlib.Core.Path.{◌∙◌}
use Prim.Native.Nat.{◌≤◌}
use native.Mathlib.Omega.{arith}
use lib.ListN.{length}
use Rattle.calls.proofs.Parts.{array_front}
use Rattle.sets.proofs.Rules.{listed_rules}
use Rattle.sets.proofs.Transforms.{third_size}
use Rattle.ntt_products.proofs.Laws.{table_most}
use Rattle.ntt_middle.proofs.fill.Goals.{After-table_length-length}
use Rattle.ntt_middle.proofs.fill.Goals as goal

-- the tables fit their array
tables_fit : (c : After-table_length-length) → c.table_length-length.result ≤ 3605
tables_fit c = rw c.table_length-length.ensures (table_most c.args.p c.requires.0 3)

-- and so does the vector
vector_fits : (c : After-table_length-length) → length c.args.work.now ≤ 3328
vector_fits c = rw c.requires.1.whole (listed_rules c.args.p c.requires.0).most_d3

pub slice_bounds-tables-end : goal.slice_bounds-tables-end
slice_bounds-tables-end c = omega (arith, tables_fit (goal.at.slice_bounds-tables-end c).After-table_length-length)

pub slice_bounds-x-end : goal.slice_bounds-x-end
slice_bounds-x-end c = omega (arith, vector_fits (goal.at.slice_bounds-x-end c).After-table_length-length)

pub correlate_stored-requires : goal.correlate_stored-requires
correlate_stored-requires c =
    let pre = c.requires in
    let table = array_front 3605 c.table_length-length.result (tables_fit (goal.at.correlate_stored-requires c).After-table_length-length)
    ∙ c.table_length-length.ensures in
    let long = array_front 3328 (length c.args.work.now) (vector_fits (goal.at.correlate_stored-requires c).After-table_length-length) in
    (pre.0, pre.1, pre.2, pre.3, table, omega (arith, long, pre.1.whole, third_size c.args.p))
