-- `samplers::small::error_draw_bytes` meets its contract: the count is small by the rules, so it fits.
-- Assumes nothing.
use native.Mathlib.Omega.{arith}
use Rattle.sets.specs.Derived.{error_draw_bytes_of}
use borrow.Author.Rules.{rules}
use Rattle.samplers.proofs.small.error_draw_bytes.Goals as goal

pub overflow_mul-result : goal.overflow_mul-result
unfolding error_draw_bytes_of
overflow_mul-result c = omega arith

pub returns : goal.returns
unfolding error_draw_bytes_of
returns c = search rules
