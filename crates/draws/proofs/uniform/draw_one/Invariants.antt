-- `draws::uniform::draw_one` meets its contract: each turn sets one candidate aside.
-- Assumes nothing.
use Rattle.draws.proofs.Sampling.{Sampled}
use Rattle.draws.proofs.uniform.draw_one.Given as goal

abbrev pub invariant-loop-run : goal.invariant-loop-run
invariant-loop-run l = Sampled l.bytes l.at l.q l.threshold l.before l.position l._run
