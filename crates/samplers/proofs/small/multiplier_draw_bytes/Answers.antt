-- `samplers::small::multiplier_draw_bytes` meets its contract: the count is small by the rules, so it fits.
-- Assumes nothing.
use native.Mathlib.Omega.{arith}
use Rattle.sets.specs.Derived.{multiplier_draw_bytes_of}
use Rattle.samplers.proofs.small.multiplier_draw_bytes.Goals as goal

pub overflow_mul-result : goal.overflow_mul-result
unfolding multiplier_draw_bytes_of
overflow_mul-result c = rw (c.multiplier_count-count.ensures, c.multiplier_bytes-width.ensures) (omega arith)

pub overflow_add-result : goal.overflow_add-result
unfolding multiplier_draw_bytes_of
overflow_add-result c = rw (c.multiplier_count-count.ensures, c.multiplier_bytes-width.ensures) (omega arith)

pub returns : goal.returns
unfolding multiplier_draw_bytes_of
returns c = rw (c.multiplier_count-count.ensures, c.multiplier_bytes-width.ensures)
