-- `numbers_key::numbers_checked` meets its contract: a and s are checked before e.
-- Assumes nothing.
use mathlib.Core.Path.{◌∙◌}
use mathlib.Core.List.{◌++◌}
use Prim.Native.Nat.{◌+◌}
use lib.ListN.{length}
use Rattle.calls.specs.Outcome.{accepted}
use Rattle.calls.specs.Checks.{below, refuse_first}
use Rattle.calls.proofs.Outcome.{handed_on}
use Rattle.middle.proofs.Chained.{first_refused, first_accepted}
use Rattle.numbers.specs.Calls.{is_error}
use Rattle.numbers_key.proofs.numbers_checked.Goals as goal

pub returns-in_err-two_checked : goal.returns-in_err-two_checked
returns-in_err-two_checked c =
    let a = c.args.a.now in
    let s = c.args.s.now in
    let later = refuse_first (is_error c.args.eta) 0 (length a + length s) c.args.e.now accepted in
    handed_on _ c.from_residual.result c.from_residual.ensures.1
    ∙ first_refused (below c.args.q) 0 (a ++ s) later c.in_err-two_checked.ensures

pub returns : goal.returns
returns c =
    let a = c.args.a.now in
    let s = c.args.s.now in
    let later = refuse_first (is_error c.args.eta) 0 (length a + length s) c.args.e.now accepted in
    c.errors_checked.ensures
    ∙ first_accepted (below c.args.q) 0 (a ++ s) later c.in_ok-two_checked.ensures
