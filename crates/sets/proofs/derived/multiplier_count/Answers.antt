-- The count is small by the rules, so it fits.
-- Assumes nothing.
use native.Mathlib.Omega.{arith}
use borrow.Author.Rules.{rules}
use Rattle.sets.specs.Derived.{multiplier_count_of}
use Rattle.sets.proofs.derived.multiplier_count.Goals as goal

pub overflow_mul-result : goal.overflow_mul-result
unfolding multiplier_count_of
overflow_mul-result c = omega arith

pub returns : goal.returns
unfolding multiplier_count_of
returns c = search rules
