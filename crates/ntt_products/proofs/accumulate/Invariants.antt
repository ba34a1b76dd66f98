-- `ntt_products::accumulate` meets its contract: after j turns the first j products are added, and the other numbers are as they were.
-- Assumes nothing.
use lib.ListN.{length}
use Rattle.calls.proofs.Filled.{Filled}
use Rattle.ntt_products.specs.Stored.{unscaled, accumulated}
use Rattle.ntt_products.proofs.accumulate.Given as goal

abbrev pub invariant-loop-j : goal.invariant-loop-j
invariant-loop-j l = Filled l.initial.total 0 (length l.initial.total) (accumulated l.reducer.q l.initial.total (unscaled l.reducer.q l.x) l.y) l.j l.total
