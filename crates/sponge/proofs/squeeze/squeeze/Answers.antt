-- `sponge::squeeze::squeeze` fills the output: after each turn a block more is given out, as far as there is room.
-- Assumes nothing.
use mathlib.Core.Path.{◌≡◌}
use Prim.Native.Nat.{◌+◌, ◌*◌, ◌<◌, min}
use native.Mathlib.Nat.{sub-zero}
use native.Mathlib.Omega.{arith}
use lib.ListN.{length}
use Rattle.sponge.proofs.Squeezing.{squeezing_none, squeezing_more, squeezing_all}
use Rattle.sponge.proofs.squeeze.squeeze.Goals as goal

pub loop-turn-init : goal.loop-turn-init
loop-turn-init c =
    let none : min (136 * 0) (length c.args.out.now) ≡ 0 = omega arith in
    rw none (squeezing_none _ _)

pub loop-turn-preserved : goal.loop-turn-preserved
loop-turn-preserved c =
    let now = c.loop-turn in
    let size = length c.args.out.now in
    let kept = now.invariant.kept in
    let more : 136 * now.turn < size = omega arith in
    let before : min (136 * now.turn) size ≡ 136 * now.turn = omega arith in
    let after : min (136 * (now.turn + 1)) size ≡ 136 * now.turn + c.min-n.result = omega arith in
    rw (after, c.copy_in.ensures, sub-zero)
    (squeezing_more (rw before at now.invariant) _ _ _ more c.permute-next.ensures c.lane_block-block.ensures c.min-n.ensures)

pub returns : goal.returns
returns c = squeezing_all c.loop-turn.invariant (omega arith)
