-- The remainder modulo a power of 2 is taken away.
-- Assumes nothing.
use mathlib.Core.Path.{ap}
use Prim.Native.Nat.{ℕ, ◌-◌, ◌%◌}
use native.Mathlib.Nat.{mod-le}
use Rattle.packing.specs.Dropped.{chop}
use Rattle.maths.proofs.Power.{shifted, shifted_some}
use Rattle.sheet_noise.proofs.whole.chopped.Goals as goal

pub nonzero_rem-result : goal.nonzero_rem-result
nonzero_rem-result c = shifted_some c.args.bits c.requires

pub overflow_sub-result : goal.overflow_sub-result
overflow_sub-result c = mod-le _ _

pub returns : goal.returns
unfolding chop
returns c = ap (λ (unit : ℕ). c.args.x - c.args.x % unit) (shifted c.args.bits c.requires)
