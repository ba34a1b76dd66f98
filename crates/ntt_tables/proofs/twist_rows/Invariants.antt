-- `ntt_tables::twist_rows` meets its contract: the rows from r on are done, and those before it are as they were.
-- Assumes nothing.
use Rattle.ntt_tables.proofs.Twist.{RowsTwisted}
use Rattle.ntt_tables.proofs.twist_rows.Given as goal

abbrev pub invariant-loop-r : goal.invariant-loop-r
invariant-loop-r l = RowsTwisted l.rows l.initial.tables l.r l.tables
