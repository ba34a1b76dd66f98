-- After i turns the products of the first i polynomials are added up.
-- Assumes nothing.
use lib.ListN.{length}
use Rattle.cpa_encrypt.proofs.Correlating.{Correlating}
use Rattle.cpa_encrypt.proofs.second.sum_stored.Given as goal

abbrev pub invariant-loop-i : goal.invariant-loop-i
invariant-loop-i l = Correlating l.p l.numbers l.multipliers (length l.initial.total) l.total l.x l.i
