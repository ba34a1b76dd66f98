-- `ntt_steps::narrow` meets its contract: after as many turns the first parts are written.
-- Assumes nothing.
use Rattle.ntt_steps.proofs.Halves.{PartsDone}
use Rattle.ntt_steps.proofs.narrow.Given as goal

abbrev pub invariant-loop-part : goal.invariant-loop-part
invariant-loop-part l = PartsDone l.reducer.q l.lift l.roots l.from l.initial.to l.part l.to
