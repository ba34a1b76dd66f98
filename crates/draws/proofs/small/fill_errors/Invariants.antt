-- `draws::small::fill_errors` meets its contract: each turn writes the error of the next byte.
-- Assumes nothing.
use Rattle.draws.specs.Small.{error_at}
use Rattle.draws.proofs.Positions.{Turned}
use Rattle.draws.proofs.small.fill_errors.Given as goal

abbrev pub invariant-loop-i : goal.invariant-loop-i
invariant-loop-i l = Turned (error_at l.bytes) 0 l.initial.out l.i l.out
