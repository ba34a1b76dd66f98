-- `middle::checks::one_checked` meets its contract: the first number out of range decides.
-- Assumes nothing.
use mathlib.Core.Path.{◌∙◌}
use Rattle.calls.specs.Outcome.{accepted}
use Rattle.calls.specs.Checks.{below}
use Rattle.calls.proofs.Checks.{refuse_first_at}
use Rattle.middle.proofs.checks.one_checked.Goals as goal

pub returns : goal.returns
returns c =
    c.first_checked.ensures ∙ refuse_first_at (below c.args.limit) 0 c.args.offset c.args.xs.now accepted _ c.first_at_least.ensures
