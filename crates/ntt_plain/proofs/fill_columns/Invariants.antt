-- `ntt_plain::fill_columns` meets its contract: after i turns the first i values are written.
-- Assumes nothing.
use lib.ListN.{length}
use Rattle.ntt_plain.specs.Plain.{columns}
use Rattle.ntt_plain.proofs.Lazily.{LazilyWritten}
use Rattle.ntt_plain.proofs.fill_columns.Given as goal

abbrev pub invariant-loop-i : goal.invariant-loop-i
invariant-loop-i l = LazilyWritten l.reducer.q (columns l.reducer.q l.row l.m (length l.initial.to) l.powers l.x) l.initial.to l.i l.to
