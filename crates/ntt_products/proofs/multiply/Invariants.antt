-- `ntt_products::multiply` meets its contract: after j turns the first j numbers are products, and the others are as they were.
-- Assumes nothing.
use lib.ListN.{length}
use Rattle.calls.proofs.Filled.{Filled}
use Rattle.ntt_products.specs.Stored.{products}
use Rattle.ntt_products.proofs.multiply.Given as goal

abbrev pub invariant-loop-j : goal.invariant-loop-j
invariant-loop-j l = Filled l.initial.x 0 (length l.initial.x) (products l.reducer.q l.initial.x l.y) l.j l.x
