-- `ntt_columns::column_sums` meets its contract: after n rows, four a turn, the sums are those of the first n rows.
-- Assumes nothing.
use Prim.Native.Nat.{◌-◌}
use Rattle.ntt_columns.proofs.Summing.{Summing}
use Rattle.ntt_columns.proofs.column_sums.Given as goal

abbrev pub invariant-loop-n : goal.invariant-loop-n
invariant-loop-n l = Summing l.reducer.q l.m l.r l.rows l.factors l.block l.n l.place l.sums

abbrev pub decreases-loop-n : goal.decreases-loop-n
decreases-loop-n l = l.m - l.n
