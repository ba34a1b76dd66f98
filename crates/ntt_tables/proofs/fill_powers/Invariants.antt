-- `ntt_tables::fill_powers` meets its contract: after i turns the first i powers are written.
-- Assumes nothing.
use Rattle.ntt_tables.proofs.Fill.{Filling}
use Rattle.ntt_tables.proofs.fill_powers.Given as goal

abbrev pub invariant-loop-i : goal.invariant-loop-i
invariant-loop-i g l = Filling l.reducer.q l.start l.n (goal.F-post g l.place) l.initial.tables l.i l.tables
