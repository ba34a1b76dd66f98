-- The second bound is the larger one by the rules, so it alone decides the bytes.
-- Assumes nothing.
use native.Mathlib.Omega.{arith}
use Rattle.sets.specs.Derived.{multiplier_bytes_of}
use Rattle.sets.proofs.derived.multiplier_bytes.Goals as goal

pub returns : goal.returns
unfolding multiplier_bytes_of
returns c = omega arith
