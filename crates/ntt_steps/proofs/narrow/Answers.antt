-- `ntt_steps::narrow` meets its contract: after as many turns the first parts are written.
-- Assumes nothing.
use Rattle.ntt_steps.proofs.Halves.{parts_more}
use Rattle.ntt_steps.proofs.narrow.Goals as goal

pub loop-part-preserved : goal.loop-part-preserved
loop-part-preserved c =
    let called = c.narrow_part in
    parts_more _ c.loop-part.invariant c.loop-part-test.true called.auto.to called.ensures
