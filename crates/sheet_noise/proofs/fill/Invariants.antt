-- Each turn writes the noise of the next place.
-- Assumes nothing.
use Rattle.maths.specs.Vector.{at}
use Rattle.draws.proofs.Laws.{Turned}
use Rattle.sheet_noise.specs.Centred.{centred_noise}
use Rattle.sheet_noise.proofs.fill.Given as goal

abbrev pub invariant-loop-j : goal.invariant-loop-j
invariant-loop-j l = Turned (λ i. centred_noise l.p l.multipliers l.errors (at l.before i) i) 0 l.initial.noise l.j l.noise
