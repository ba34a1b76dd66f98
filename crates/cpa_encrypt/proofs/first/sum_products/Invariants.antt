-- After i turns the products of the first i polynomials are added up.
-- Assumes nothing.
use lib.ListN.{length}
use Rattle.cpa_encrypt.proofs.Adding.{Adding}
use Rattle.cpa_encrypt.proofs.first.sum_products.Given as goal

abbrev pub invariant-loop-i : goal.invariant-loop-i
invariant-loop-i l =
    Adding l.p l.seed l.multipliers (length l.initial.total) l.total l.x l.y l.counter l.i
