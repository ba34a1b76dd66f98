-- `numbers_key::errors_checked` meets its contract: the first error out of range decides.
-- Assumes nothing.
use mathlib.Core.Path.{◌∙◌}
use Rattle.calls.specs.Outcome.{accepted}
use Rattle.calls.proofs.Checks.{refuse_first_at}
use Rattle.numbers.specs.Calls.{is_error}
use Rattle.numbers_key.proofs.errors_checked.Goals as goal

pub returns : goal.returns
returns c = c.first_checked.ensures ∙ refuse_first_at (is_error c.args.eta) 0 c.args.offset c.args.es.now accepted _ c.first_error.ensures
