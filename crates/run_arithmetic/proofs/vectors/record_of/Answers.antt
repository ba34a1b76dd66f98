-- The record is that of the set, or of set 0.
-- Assumes nothing.
use native.Mathlib.Omega.{arith}
use Rattle.sets.proofs.Rules.{listed_of}
use Rattle.run_arithmetic.proofs.vectors.record_of.Goals as goal

pub returns-then-set-gt-LAST : goal.returns-then-set-gt-LAST
returns-then-set-gt-LAST c = listed_of 0 (omega arith) _ c.parameters_of.ensures

pub returns : goal.returns
returns c = listed_of c.args.set (omega (arith, c.if-set-gt-LAST.false)) _ c.parameters_of-2.ensures
