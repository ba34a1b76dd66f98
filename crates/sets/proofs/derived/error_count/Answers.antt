-- `sets::derived::error_count` meets its contract: the count is small by the rules, so it fits.
-- Assumes nothing.
use mathlib.Core.Path.{refl}
use native.Mathlib.Omega.{arith}
use Rattle.sets.specs.Derived.{error_count_of}
use Rattle.sets.proofs.Counts.{errors_most}
use Rattle.sets.proofs.derived.error_count.Goals as goal

pub overflow_mul-result : goal.overflow_mul-result
unfolding error_count_of
overflow_mul-result c = omega (arith, errors_most c.args.p c.requires)

pub returns : goal.returns
unfolding error_count_of
returns c = (refl, errors_most c.args.p c.requires)
