-- The counts are small by the rules, so they fit.
-- Assumes nothing.
use native.Mathlib.Omega.{arith}
use Rattle.sets.proofs.Rules.{listed_rules}
use Rattle.cpa_keygen.specs.Held.{vectors_start_of}
use Rattle.cpa_keygen.proofs.vectors.vectors_start.Goals as goal

pub error_count-requires : goal.error_count-requires
error_count-requires c = listed_rules c.args.p c.requires.1

pub overflow_add-result : goal.overflow_add-result
overflow_add-result c =
    omega (arith, c.error_count.ensures.1, (listed_rules c.args.p c.requires.1).most_d3)

pub returns : goal.returns
unfolding vectors_start_of
returns c = rw c.error_count.ensures.0
