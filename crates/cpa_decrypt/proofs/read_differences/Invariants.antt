-- After j turns the first j numbers are bits, and the others are as they were.
-- Assumes nothing.
use lib.ListN.{length}
use Rattle.calls.proofs.Filled.{Filled}
use Rattle.cpa_decrypt.specs.Decrypted.{difference_bits}
use Rattle.cpa_decrypt.proofs.read_differences.Given as goal

abbrev pub invariant-loop-j : goal.invariant-loop-j
invariant-loop-j l = Filled l.initial.second 0 (length l.initial.second) (difference_bits l.p l.initial.second l.correlations) l.j l.second
