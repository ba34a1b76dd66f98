-- `numbers::signed::multipliers_checked` meets its contract: the first number that is no multiplier decides.
-- Assumes nothing.
use mathlib.Core.Path.{◌∙◌}
use Rattle.calls.specs.Outcome.{accepted}
use Rattle.calls.proofs.Checks.{refuse_first_at}
use Rattle.numbers.specs.Calls.{is_multiplier_of}
use Rattle.numbers.proofs.signed.multipliers_checked.Goals as goal

pub returns : goal.returns
returns c =
    c.first_checked.ensures ∙ refuse_first_at (is_multiplier_of c.args.p) 0 c.args.offset c.args.rs.now accepted _ c.first_non_multiplier.ensures
