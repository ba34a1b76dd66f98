-- `ntt_columns::columns` meets its contract: after b turns the first 64 · b columns are transformed.
-- Assumes nothing.
use Rattle.ntt_columns.specs.Blocks.{ZerosFrom}
use Rattle.ntt_columns.proofs.Blocks.{ColumnsDone}
use Rattle.ntt_columns.proofs.columns.Given as goal

abbrev pub invariant-loop-b : goal.invariant-loop-b
invariant-loop-b l = ColumnsDone l.reducer.q l.m l.out l.rows l.factors l.initial.x l.b l.x × ZerosFrom l.m l.block
