-- `ntt_tables::twist_rows` meets its contract: the rows from r on are done, and those before it are as they were.
-- Assumes nothing.
use native.Mathlib.Omega.{arith}
use Rattle.ntt_tables.proofs.Twist.{rows_twisted_more}
use Rattle.ntt_tables.proofs.twist_rows.Goals as goal

pub loop-r-preserved : goal.loop-r-preserved
loop-r-preserved c =
    let turn = c.loop-r in
    rows_twisted_more turn.invariant (omega (arith, c.loop-r-test.true)) c.twist_row.ensures
