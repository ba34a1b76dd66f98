-- `numbers_reading::bits::floor_bit` meets its contract: the code is the formula.
-- Assumes nothing.
use mathlib.Core.Path.{refl}
use Rattle.maths.specs.Rounding.{floor_bit_of}
use Rattle.numbers_reading.proofs.bits.floor_bit.Goals as goal

pub returns : goal.returns
unfolding floor_bit_of
returns c = refl
