-- `ntt_columns::column_block` meets its contract: after r turns the first r values of each of the 64 columns are written.
-- Assumes nothing.
use mathlib.Core.Path.{◌≡◌}
use Prim.Native.Nat.{◌≤◌}
use lib.ListN.{length}
use Rattle.ntt_columns.proofs.Blocks.{Storing}
use Rattle.ntt_columns.proofs.column_block.Given as goal

abbrev pub invariant-loop-r : goal.invariant-loop-r
invariant-loop-r l =
    (l.r ≤ l.out) × (length l.sums ≡ 64) × Storing l.reducer.q l.m l.rows l.b l.factors l.initial.x l.r l.x
