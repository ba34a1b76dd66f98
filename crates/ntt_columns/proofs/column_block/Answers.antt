-- `ntt_columns::column_block` meets its contract: after r turns the first r values of each of the 64 columns are written.
-- Assumes nothing.
use mathlib.Core.Path.{◌≡◌, ◌∙◌}
use native.Mathlib.Omega.{arith}
use lib.ListN.{length}
use Rattle.ntt_columns.proofs.Blocks.{sums_ready, storing_more, storing_all}
use Rattle.ntt_columns.proofs.column_block.Goals as goal

pub column_sums-requires : goal.column_sums-requires
column_sums-requires c =
    let pre = c.requires in
    let loaded = c.load_block in
    sums_ready pre.0 loaded.ensures pre.1 (loaded.auto.block ∙ pre.1.size) c.loop-r.invariant.1 c.loop-r-test.true

pub loop-r-preserved : goal.loop-r-preserved
loop-r-preserved c =
    let inv = c.loop-r.invariant in
    let size : length c.column_sums.new.sums ≡ 64 = c.column_sums.auto.sums ∙ inv.1 in (
      omega arith,
      size,
      storing_more c.requires.0 c.load_block.ensures c.column_sums.new.sums inv.2
          c.loop-r-test.true size c.copy_in.ensures c.column_sums.ensures,
    )

pub returns-clause-result : goal.returns-clause-result
returns-clause-result c = storing_all c.requires.0 c.loop-r.invariant.2 c.loop-r.invariant.0 c.loop-r-test.false
