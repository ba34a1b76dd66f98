-- `ntt_tables::twist_row` meets its contract: after c turns the first c places of the row are written.
-- Assumes nothing.
use mathlib.Core.Path.{refl}
use native.Mathlib.Omega.{arith}
use Rattle.ntt_tables.proofs.Twist.{twisting_more}
use Rattle.ntt_tables.proofs.twist_row.Goals.{In-loop-c}
use Rattle.ntt_tables.proofs.twist_row.Goals as goal

pub loop-c-preserved : goal.loop-c-preserved
loop-c-preserved c =
    let turn = c.loop-c in
    twisting_more turn.invariant refl (omega (arith, c.requires, turn.invariant.size, c.loop-c-test.true)) c.loop-c-test.true refl
