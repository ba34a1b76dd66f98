-- `sponge::lanes::lane_block` gives the first 17 lanes: after i turns those of i lanes stand in front.
-- Assumes nothing.
use mathlib.Core.Path.{refl, ◌∙◌}
use native.Mathlib.Omega.{arith}
use Rattle.sponge.proofs.Bytes.{laid_none, laid_more, laid_all, eight_bytes}
use Rattle.sponge.proofs.lanes.lane_block.Goals as goal

pub loop-i-init : goal.loop-i-init
loop-i-init c = laid_none _ _ refl

pub loop-i-preserved : goal.loop-i-preserved
loop-i-preserved c =
    rw c.copy_in.ensures
    (laid_more _ c.loop-i.invariant c.loop-i-test.true (c.to_le_bytes.ensures ∙ eight_bytes _))

pub returns : goal.returns
returns c = laid_all c.loop-i.invariant (omega arith)
