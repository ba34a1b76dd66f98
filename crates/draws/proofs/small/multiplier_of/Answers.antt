-- `draws::small::multiplier_of` meets its contract: twice the size, subtracted or not, gives both signs.
-- Assumes nothing.
use native.Mathlib.Omega.{arith}
use Rattle.draws.proofs.Bits.{pos_fits, doubled_most, multiplier_fits, multiplier_is}
use Rattle.draws.proofs.small.multiplier_of.Goals as goal

pub overflow_mul-result-2 : goal.overflow_mul-result-2
overflow_mul-result-2 c = omega (arith, doubled_most _ _ _ _ c.low_bits-size.ensures.0 c.low_bits-size.ensures.1 c.requires.1)

pub overflow_sub-result : goal.overflow_sub-result
overflow_sub-result c = doubled_most _ _ _ _ c.low_bits-size.ensures.0 c.low_bits-size.ensures.1 c.requires.1

pub overflow_cast-result : goal.overflow_cast-result
overflow_cast-result c = pos_fits (omega arith)

pub overflow_sub-result-2 : goal.overflow_sub-result-2
overflow_sub-result-2 c = multiplier_fits _ _ _ _ c.low_bits-size.ensures.0 c.low_bits-size.ensures.1 c.requires.1

pub returns : goal.returns
returns c = multiplier_is _ _ _ _ c.low_bits-size.ensures.0 c.low_bits-size.ensures.1 c.requires.1

pub overflow_add-size : goal.overflow_add-size
overflow_add-size c = omega arith

pub overflow_add-result : goal.overflow_add-result
overflow_add-result c = omega arith

pub overflow_mul-result : goal.overflow_mul-result
overflow_mul-result c = omega arith
