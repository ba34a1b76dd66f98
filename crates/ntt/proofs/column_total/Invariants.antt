-- `ntt::column_total` meets its contract: after n turns the numbers of the first n rows are added up.
-- Assumes nothing.
use Rattle.ntt.proofs.Totals.{Totalled}
use Rattle.ntt.proofs.column_total.Given as goal

abbrev pub invariant-loop-n : goal.invariant-loop-n
invariant-loop-n l = Totalled l.rows l.x l.c l.n l.total
