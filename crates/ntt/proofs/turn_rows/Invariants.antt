-- `ntt::turn_rows` meets its contract: after r turns the first r rows are done, and the others are as they were.
-- Assumes nothing.
use Rattle.ntt.specs.Rows.{RowAt}
use Rattle.ntt.proofs.Rows.{RowsDone}
use Rattle.ntt.proofs.turn_rows.Given as goal

abbrev pub invariant-loop-r : goal.invariant-loop-r
invariant-loop-r l = RowsDone (RowAt l.reducer.q l.direction l.rows l.tables) l.rows l.initial.x l.r l.x
