-- `sponge::lanes::lane_block` gives the first 17 lanes: after i turns those of i lanes stand in front.
-- Assumes nothing.
use Rattle.sponge.proofs.Bytes.{Laid}
use Rattle.sponge.proofs.lanes.lane_block.Given as goal

abbrev pub invariant-loop-i : goal.invariant-loop-i
invariant-loop-i l = Laid l.a l.initial.block l.i l.block
