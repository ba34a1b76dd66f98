-- `ntt_columns::add_four` meets its contract: after j turns the first j sums have four products more.
-- Assumes nothing.
use Rattle.ntt_columns.proofs.Four.{Adding}
use Rattle.ntt_columns.proofs.add_four.Given as goal

abbrev pub invariant-loop-j : goal.invariant-loop-j
invariant-loop-j l = Adding l.reducer.q l.a l.b l.c l.d l.block l.initial.sums l.j l.sums
