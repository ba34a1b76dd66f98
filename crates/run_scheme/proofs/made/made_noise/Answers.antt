-- `run_scheme::made::made_noise` meets its contract: the size is at most 128.
-- Assumes nothing.
use Prim.Native.Nat.{◌-◌}
use native.Mathlib.Omega.{arith}
use Rattle.maths.proofs.SignedWord.{opposite_fits}
use Rattle.run_scheme.proofs.Noise.{natural_small, opposite_small}
use Rattle.run_scheme.proofs.made.made_noise.Goals as goal

pub returns-then-byte-lt128 : goal.returns-then-byte-lt128
returns-then-byte-lt128 c = natural_small c.args.byte (omega arith)

pub overflow_sub-result : goal.overflow_sub-result
overflow_sub-result c = opposite_fits (256 - c.args.byte) (omega arith)

pub returns : goal.returns
returns c = opposite_small (256 - c.args.byte) (omega arith)
