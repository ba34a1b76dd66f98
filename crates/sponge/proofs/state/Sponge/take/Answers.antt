-- `sponge::state::Sponge::take` takes a piece in, which leaves room in the block or fills it.
-- Assumes nothing.
use native.Mathlib.Omega.{arith}
use Rattle.sponge.proofs.Absorbing.{fed_part, fed_full}
use Rattle.sponge.proofs.state.Sponge.take.Goals as goal

pub returns-then-end-lt136 : goal.returns-then-end-lt136
returns-then-end-lt136 c =
    let s = c.args.self.now in
    rw c.copy_in.ensures (fed_part s.state s.block s.waiting c.args.piece.now (record { whole = omega arith; below = s.room }) c.if-end-lt136.true)

pub returns : goal.returns
returns c =
    let s = c.args.self.now in
    rw (c.absorb.ensures.0, c.absorb.ensures.1, c.absorb.ensures.2, c.copy_in.ensures)
    (fed_full s.state s.block s.waiting c.args.piece.now (record { whole = omega arith; below = s.room }) (omega arith))
