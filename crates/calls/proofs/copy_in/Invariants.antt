-- `calls::copy_in` meets its contract: after i turns the first i entries of `src` stand in place.
-- Assumes nothing.
use lib.ListN.{length}
use Rattle.calls.proofs.Filled.{Filled}
use Rattle.calls.proofs.copy_in.Given as goal

abbrev pub invariant-loop-i : goal.invariant-loop-i
invariant-loop-i g l = Filled l.initial.dst l.at (length l.src) l.src l.i l.dst
