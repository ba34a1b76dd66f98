-- `sponge::squeeze::squeeze` fills the output: after each turn a block more is given out, as far as there is room.
-- Assumes nothing.
use Prim.Native.Nat.{◌*◌, min}
use lib.ListN.{length}
use Rattle.sponge.proofs.Squeezing.{Squeezing}
use Rattle.sponge.proofs.squeeze.squeeze.Given as goal

abbrev pub invariant-loop-turn : goal.invariant-loop-turn
invariant-loop-turn l = Squeezing l.initial.a l.initial.out l.a l.out (min (136 * l.turn) (length l.initial.out))
