-- `residues::small_quotient` meets its contract: the reciprocal, rounded up, gives the exact quotient of a small number.
-- Assumes nothing.
use native.Mathlib.Omega.{arith}
use Rattle.residues.proofs.Barrett.{Reciprocal, reciprocal, small_quotient_lem}
use Rattle.residues.proofs.small_quotient.Goals as goal

-- what the call gives is a reciprocal
inverse : (c : goal.After-reciprocal) → Reciprocal c.args.q c.reciprocal.result
inverse c = rw c.reciprocal.ensures (reciprocal (omega arith))

pub returns : goal.returns
returns c = small_quotient_lem (inverse c) c.requires.0 c.requires.2
