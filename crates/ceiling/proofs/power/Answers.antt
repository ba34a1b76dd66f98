-- 1 shifted by so many bits stays within a word.
-- Assumes nothing.
use native.Mathlib.Omega.{arith}
use Rattle.maths.proofs.Power.{shifted}
use Rattle.ceiling.proofs.power.Goals as goal

pub returns : goal.returns
returns c = shifted c.args.bits (omega arith)
