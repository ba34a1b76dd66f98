-- The lengths are small by the rules, so their sum fits.
-- Assumes nothing.
use native.Mathlib.Omega.{arith}
use Rattle.sets.proofs.Rules.{listed_rules}
use Rattle.cpa_keygen.proofs.vectors.vector_length.Goals as goal

pub overflow_add-result : goal.overflow_add-result
overflow_add-result c = let kept = listed_rules c.args.p c.requires in omega (arith, kept.most_d, kept.most_k)
