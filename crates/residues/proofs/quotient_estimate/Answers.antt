-- `residues::quotient_estimate` meets its contract: the quotient is estimated by the reciprocal of q.
-- Assumes nothing.
use native.Mathlib.Omega.{arith}
use Rattle.residues.proofs.Barrett.{Reciprocal, reciprocal, estimate_most, estimate_least}
use Rattle.residues.proofs.quotient_estimate.Goals as goal

-- what the call gives is a reciprocal
inverse : (c : goal.After-reciprocal) → Reciprocal c.args.q c.reciprocal.result
inverse c = rw c.reciprocal.ensures (reciprocal (omega arith))

pub returns : goal.returns
returns c =
    let known = c.requires in
    (estimate_most (inverse c) known.0, estimate_least (inverse c) known.0 known.1)
