-- `sponge::state::Sponge::feed` takes bytes in: what of them is taken and what is left, which begins with a block.
-- Assumes nothing.
use mathlib.Core.Path.{◌≡◌}
use Rattle.sponge.proofs.Absorbing.{Pieces}
use Rattle.sponge.proofs.state.Sponge.feed.Given as goal

abbrev pub invariant-loop-piece : goal.invariant-loop-piece
invariant-loop-piece l =
    (l.piece-iterator.size ≡ 136)
    × Pieces l.fn.self.state l.fn.self.block l.fn.self.waiting l.fn.bytes l.piece-iterator.rest.now l.self.state l.self.block l.self.waiting
