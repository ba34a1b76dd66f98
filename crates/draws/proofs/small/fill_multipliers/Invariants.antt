-- `draws::small::fill_multipliers` meets its contract: each turn writes the multiplier of the next position.
-- Assumes nothing.
use Rattle.draws.specs.Small.{multiplier_at_of}
use Rattle.draws.proofs.Positions.{Turned}
use Rattle.draws.proofs.small.fill_multipliers.Given as goal

abbrev pub invariant-loop-i : goal.invariant-loop-i
invariant-loop-i l = Turned (multiplier_at_of l.p l.bytes) l.first l.initial.out l.i l.out
