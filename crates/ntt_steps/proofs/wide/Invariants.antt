-- `ntt_steps::wide` meets its contract: after i turns the first i butterflies are written.
-- Assumes nothing.
use Rattle.ntt_steps.proofs.FourWritten.{FourWritten}
use Rattle.ntt_steps.proofs.Halves.{QuarterTurn}
use Rattle.ntt_steps.proofs.wide.Given as goal

abbrev pub invariant-loop-i : goal.invariant-loop-i
invariant-loop-i l = FourWritten (QuarterTurn l.reducer.q l.lift l.roots l.from) 0 64 l.initial.to l.i l.to
