-- `samplers::block::stopped_at` meets its contract, by which refusal it is.
-- Assumes nothing.
use mathlib.Core.Path.{refl}
use native.Mathlib.Omega.{arith}
use Rattle.samplers.proofs.block.stopped_at.Goals as goal

pub overflow_cast-result : goal.overflow_cast-result
overflow_cast-result c = let few = rw c.in-BytesEnded.is at c.requires in omega (arith, few refl)

pub overflow_add-result : goal.overflow_add-result
overflow_add-result c = let few = rw c.in-BytesEnded.is at c.requires in omega (arith, few refl)
