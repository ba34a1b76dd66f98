-- `sponge::lanes::lane_of` is the lane of a block.
-- Assumes nothing.
use mathlib.Core.Path.{refl, ◌∙◌}
use Prim.Native.Nat.{◌*◌}
use native.Mathlib.Omega.{arith}
use Rattle.sponge.proofs.Bytes.{lane_inside, lane_past}
use Rattle.sponge.proofs.lanes.lane_of.Goals as goal

pub returns-then-i-ge17 : goal.returns-then-i-ge17
returns-then-i-ge17 c = lane_past c.args.block.now c.args.i (omega arith)

pub returns : goal.returns
returns c = c.from_le_bytes.ensures ∙ omega arith ∙ lane_inside c.args.block.now c.args.i (8 * c.args.i) refl (omega arith)
