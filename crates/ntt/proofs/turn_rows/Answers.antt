-- `ntt::turn_rows` meets its contract: after r turns the first r rows are done, and the others are as they were.
-- Assumes nothing.
use Rattle.ntt.proofs.Rows.{rows_more, rows_ready, row_given}
use Rattle.ntt.proofs.turn_rows.Goals as goal

pub turn_row_at-requires : goal.turn_row_at-requires
turn_row_at-requires c =
    let pre = c.requires in
    let inv = c.loop-r.invariant in
    (rows_ready pre.0 inv.kept, c.loop-r-test.true, row_given c.args.direction pre.0 pre.1 inv c.loop-r-test.true)

pub loop-r-preserved : goal.loop-r-preserved
loop-r-preserved c = rows_more c.requires.0.size c.loop-r.invariant c.loop-r-test.true c.turn_row_at.ensures
