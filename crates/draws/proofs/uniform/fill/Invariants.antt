-- `draws::uniform::fill` meets its contract: each turn draws one result and writes it, and none is refused.
-- Assumes nothing.
use Rattle.draws.proofs.Results.{Filling}
use Rattle.draws.proofs.uniform.fill.Given as goal

abbrev pub invariant-loop-number : goal.invariant-loop-number
invariant-loop-number l = Filling l.bytes l.q l.threshold l.initial.out l.position l.number-index l.out
