-- `ntt_plain::fill_rows` meets its contract: after i turns the first i values are written.
-- Assumes nothing.
use Rattle.ntt_plain.specs.Plain.{rows}
use Rattle.ntt_plain.proofs.Lazily.{LazilyWritten}
use Rattle.ntt_plain.proofs.fill_rows.Given as goal

abbrev pub invariant-loop-i : goal.invariant-loop-i
invariant-loop-i l = LazilyWritten l.reducer.q (rows l.reducer.q l.row l.count l.powers l.x) l.initial.to l.i l.to
