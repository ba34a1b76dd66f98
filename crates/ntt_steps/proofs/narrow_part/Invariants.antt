-- `ntt_steps::narrow_part` meets its contract: after i turns the first i butterflies are written.
-- Assumes nothing.
use Prim.Native.Nat.{◌*◌}
use Rattle.ntt_steps.proofs.FourWritten.{FourWritten}
use Rattle.ntt_steps.proofs.Halves.{PartTurn}
use Rattle.ntt_steps.proofs.narrow_part.Given as goal

abbrev pub invariant-loop-i : goal.invariant-loop-i
invariant-loop-i l = FourWritten (PartTurn l.reducer.q l.lift l.roots l.from l.part) (64 * l.part) 16 l.initial.to l.i l.to
