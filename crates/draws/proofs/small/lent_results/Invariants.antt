-- `draws::small::lent_results` meets its contract: the bytes of each result that the loop has passed are lent.
-- Assumes nothing.
use Rattle.draws.proofs.Positions.{LentUpTo}
use Rattle.draws.proofs.small.lent_results.Given as goal

abbrev pub invariant-loop-i : goal.invariant-loop-i
invariant-loop-i l = LentUpTo l.p l.bytes l.first l.wanted l.i
