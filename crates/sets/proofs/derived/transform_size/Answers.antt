-- Each arm of the match gives the size of its number.
-- Assumes nothing.
use native.Mathlib.Omega.{arith}
use Rattle.sets.proofs.Transforms.{size_first, size_second, size_third}
use Rattle.sets.proofs.derived.transform_size.Goals as goal

pub returns-in-1 : goal.returns-in-1
returns-in-1 c = cc (size_first c.args.p c.args.i c.in-1.is)

pub returns-in-2 : goal.returns-in-2
returns-in-2 c = cc (size_second c.args.p c.args.i c.in-2.is)

pub returns-in_default : goal.returns-in_default
returns-in_default c = cc (size_third c.args.p c.args.i (λ e. omega arith) (λ e. omega arith))
