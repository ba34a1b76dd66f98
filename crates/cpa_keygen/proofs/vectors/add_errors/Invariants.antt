-- After j turns the first j sums are written, and the other numbers are as they were.
-- Assumes nothing.
use lib.ListN.{length}
use Rattle.calls.proofs.Filled.{Filled}
use Rattle.cpa_keygen.specs.Held.{sums}
use Rattle.cpa_keygen.proofs.vectors.add_errors.Given as goal

abbrev pub invariant-loop-j : goal.invariant-loop-j
invariant-loop-j l = Filled l.initial.x 0 (length l.errors) (sums l.q l.initial.x l.errors) l.j l.x
