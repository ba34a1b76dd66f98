-- The set keeps the rules, and block size and count are within the limits of a draw.
-- Assumes nothing.
use native.Mathlib.Omega.{arith}
use Rattle.run_bytes.proofs.seeded.residues_into.Goals as goal

pub residues_from-requires-clause-rules : goal.residues_from-requires-clause-rules
residues_from-requires-clause-rules c = (c.parameters.ensures.0, omega arith, omega arith, omega arith)
