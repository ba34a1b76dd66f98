-- `residues::partial_remainder` meets its contract: the estimated quotient times q is subtracted.
-- Assumes nothing.
use native.Mathlib.Omega.{arith}
use Rattle.residues.proofs.Barrett.{less_multiple}
use Rattle.residues.proofs.partial_remainder.Goals as goal

pub returns : goal.returns
returns c = (less_multiple c.args.q c.args.x c.quotient_estimate.result c.quotient_estimate.ensures.0, omega arith)
