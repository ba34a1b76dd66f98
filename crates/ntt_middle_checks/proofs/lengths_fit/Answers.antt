-- The test of the work slice is the first of the definition, and the others are those of the plain middle product.
-- Assumes nothing.
use mathlib.Core.Path.{sym, ◌∙◌}
use borrow.Author.Tests.{ne_eqb, eq-eqb}
use Rattle.calls.specs.Checks.{all_of}
use Rattle.calls.proofs.Checks.{all_of_false}
use Rattle.ntt_middle_checks.proofs.lengths_fit.Goals as goal

pub returns-then-work-size : goal.returns-then-work-size
returns-then-work-size c = sym (all_of_false _ 0 (ne_eqb _ _ c.if-work-size.true))

pub returns : goal.returns
unfolding all_of
returns c = c.lengths_fit.ensures ∙ rw (eq-eqb _ _ c.if-work-size.false)
