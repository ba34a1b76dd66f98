-- `ntt::column_total` meets its contract: after n turns the numbers of the first n rows are added up.
-- Assumes nothing.
use Rattle.ntt.proofs.Totals.{totalled_none, totalled_more}
use Rattle.ntt.proofs.column_total.Goals as goal

pub loop-n-init : goal.loop-n-init
loop-n-init c = totalled_none

pub loop-n-preserved : goal.loop-n-preserved
loop-n-preserved c =
    totalled_more c.loop-n.invariant c.loop-n-test.true c.requires.0 c.requires.3
