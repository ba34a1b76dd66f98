-- `draws::uniform::look` meets its contract: each turn draws one result, and the first refusal is the answer.
-- Assumes nothing.
use Rattle.draws.proofs.Results.{Looking}
use Rattle.draws.proofs.uniform.look.Given as goal

abbrev pub invariant-loop-i : goal.invariant-loop-i
invariant-loop-i l = Looking l.bytes l.q l.threshold l.wanted l.position l.i
