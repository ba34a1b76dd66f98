-- Each turn adds the part of one polynomial.
-- Assumes nothing.
use Rattle.sheet_noise.specs.Centred.{centred_part}
use Rattle.sheet_noise.proofs.Sums.{Summing}
use Rattle.sheet_noise.proofs.whole.product_noise.Given as goal

abbrev pub invariant-loop-i : goal.invariant-loop-i
invariant-loop-i l = Summing (centred_part l.fn.p l.multipliers l.errors l.j) l.fn.p.t l.i l.sum
