-- Each turn adds one product.
-- Assumes nothing.
use Rattle.sheet_noise.specs.Centred.{centred_term}
use Rattle.sheet_noise.proofs.Sums.{Summing}
use Rattle.sheet_noise.proofs.whole.correlation_at.Given as goal

abbrev pub invariant-loop-l : goal.invariant-loop-l
invariant-loop-l l = Summing (centred_term l.half l.multipliers l.first l.errors l.place) l.count l.l l.sum
