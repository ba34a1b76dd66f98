-- `sponge::state::Sponge::feed` takes bytes in: what of them is taken and what is left, which begins with a block.
-- Assumes nothing.
use mathlib.Core.Path.{ap, ◌∙◌}
use Prim.Native.Nat.{ℕ, min}
use native.Mathlib.Omega.{arith}
use lib.ListN.{length}
use Rattle.sponge.proofs.Absorbing.{pieces_begun, pieces_more, pieces_all}
use Rattle.sponge.proofs.state.Sponge.feed.Goals as goal

pub loop-piece-init : goal.loop-piece-init
loop-piece-init c = ((cc), pieces_begun c.take.ensures (cc) (c.split_at.ensures.front_len ∙ c.min-first.ensures) c.args.self.now.room)

pub take-requires-in-loop-piece : goal.take-requires-in-loop-piece
take-requires-in-loop-piece c =
    let held = c.loop-piece.invariant in
    let steps = c.in-Some.ensures.steps in
    omega (arith, held.0, held.1.aligned steps.1.2, steps.1.1)

pub loop-piece-preserved : goal.loop-piece-preserved
loop-piece-preserved c =
    let held = c.loop-piece.invariant in
    let steps = c.in-Some.ensures.steps in
    let size = steps.1.1 ∙ ap (λ (n : ℕ). min n (length c.loop-piece.piece-iterator.rest.now)) held.0 in
    (steps.0 ∙ held.0, pieces_more held.1 steps.1.0 size steps.1.2 c.take-in-loop-piece.ensures)

pub returns : goal.returns
returns c = pieces_all c.loop-piece.invariant.1 c.in-None.ensures.steps.1.0
