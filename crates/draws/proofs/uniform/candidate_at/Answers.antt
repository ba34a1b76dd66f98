-- `draws::uniform::candidate_at` meets its contract: three bytes and their shifts give the number of a region of three bytes.
-- Assumes nothing.
use native.Mathlib.Omega.{arith}
use Rattle.draws.proofs.Candidates.{little_three}
use Rattle.draws.proofs.uniform.candidate_at.Goals as goal

pub returns : goal.returns
returns c =
    omega (arith, c.from_le_bytes.ensures, little_three c.args.bytes.now c.args.position c.requires)
