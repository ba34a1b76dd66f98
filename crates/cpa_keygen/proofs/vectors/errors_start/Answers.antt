-- The errors of polynomial i lie in the work slice, which is short.
-- Assumes nothing.
use native.Mathlib.Omega.{arith}
use Rattle.sets.proofs.Rules.{listed_rules}
use Rattle.cpa_keygen.proofs.Room.{errors_short}
use Rattle.cpa_keygen.proofs.vectors.errors_start.Goals as goal

pub overflow_add-result : goal.overflow_add-result
overflow_add-result c = let kept = listed_rules c.args.p c.requires.1 in omega (arith, kept.most_d, kept.most_k)

pub overflow_mul-result : goal.overflow_mul-result
overflow_mul-result c =
    omega (arith, errors_short c.args.p c.requires.0 c.requires.1 c.args.i c.requires.2)

pub overflow_add-result-2 : goal.overflow_add-result-2
overflow_add-result-2 c =
    omega (arith, errors_short c.args.p c.requires.0 c.requires.1 c.args.i c.requires.2)
