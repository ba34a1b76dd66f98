-- `ntt_plain::twist` meets its contract: after i turns the first i numbers are multiplied, and the others are as they were.
-- Assumes nothing.
use Rattle.ntt_plain.specs.Plain.{twisted}
use Rattle.ntt_plain.proofs.Lazily.{LazilyWritten}
use Rattle.ntt_plain.proofs.twist.Given as goal

abbrev pub invariant-loop-i : goal.invariant-loop-i
invariant-loop-i l = LazilyWritten l.reducer.q (twisted l.reducer.q l.row l.powers l.initial.x) l.initial.x l.i l.x
