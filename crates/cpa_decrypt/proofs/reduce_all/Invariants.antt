-- After i turns the first i numbers are taken modulo q, and the others are as they were.
-- Assumes nothing.
use lib.ListN.{length}
use Rattle.calls.proofs.Filled.{Filled}
use Rattle.cpa_decrypt.specs.Decrypted.{reduced}
use Rattle.cpa_decrypt.proofs.reduce_all.Given as goal

abbrev pub invariant-loop-x : goal.invariant-loop-x
invariant-loop-x l = Filled l.initial.xs 0 (length l.initial.xs) (reduced l.q l.initial.xs) l.x-index l.xs
