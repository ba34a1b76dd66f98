-- The checks come in the order of the definition.
-- Assumes nothing.
use mathlib.Core.Path.{◌≡◌, sym, ◌∙◌}
use Rattle.calls.specs.Outcome.{accepted}
use Rattle.calls.specs.Checks.{all_of}
use Rattle.sets.specs.Table.{set_of}
use Rattle.ntt_middle_checks.specs.Checks.{transformed_shape}
use Rattle.ntt_middle_checks.proofs.Laws.{checked_set, checked_shape, checked_room, checked_passed}
use Rattle.ntt_middle_checks.proofs.lengths_checked.Goals.{After-lengths_fit}
use Rattle.ntt_middle_checks.proofs.lengths_checked.Goals as goal

-- the test of the lengths is that of the definition
shape : (c : After-lengths_fit)
    → let args = c.args in c.lengths_fit.result ≡ all_of
    (transformed_shape (set_of args.set).d3 args.a args.b args.d args.work)
shape c = rw (← c.requires) c.lengths_fit.ensures

pub returns-then-set-gt-LAST : goal.returns-then-set-gt-LAST
returns-then-set-gt-LAST c = sym (checked_set _ _ _ _ _ accepted c.if-set-gt-LAST.true)

pub returns-then-not-lengths_fit : goal.returns-then-not-lengths_fit
returns-then-not-lengths_fit c =
    sym (checked_shape _ _ _ _ _ accepted c.if-set-gt-LAST.false (sym (shape (goal.at.returns-then-not-lengths_fit c).After-lengths_fit)
    ∙ c.if-not-lengths_fit.true))

pub returns-then-size-b : goal.returns-then-size-b
returns-then-size-b c =
    sym (checked_room _ _ _ _ _ accepted c.if-set-gt-LAST.false (sym (shape (goal.at.returns-then-size-b c).After-lengths_fit) ∙ c.if-not-lengths_fit.false)
    (rw (← c.requires) c.if-size-b.true))

pub returns : goal.returns
returns c =
    sym (checked_passed _ _ _ _ _ accepted c.if-set-gt-LAST.false (sym (shape (goal.at.returns c).After-lengths_fit) ∙ c.if-not-lengths_fit.false)
    (rw (← c.requires) c.if-size-b.false))
