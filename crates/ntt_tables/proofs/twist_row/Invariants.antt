-- `ntt_tables::twist_row` meets its contract: after c turns the first c places of the row are written.
-- Assumes nothing.
use Rattle.ntt_tables.proofs.Twist.{Twisting}
use Rattle.ntt_tables.proofs.twist_row.Given as goal

abbrev pub invariant-loop-c : goal.invariant-loop-c
invariant-loop-c l = Twisting l.r l.initial.tables l.c l.tables
