-- `middle::checks::two_checked` meets its contract: the first slice is checked before the second.
-- Assumes nothing.
use mathlib.Core.Path.{sym, ◌∙◌}
use lib.ListN.{length}
use Rattle.calls.specs.Outcome.{accepted}
use Rattle.calls.specs.Checks.{below, refuse_first}
use Rattle.calls.proofs.Outcome.{handed_on}
use Rattle.middle.proofs.Chained.{first_refused, first_accepted, two_slices}
use Rattle.middle.proofs.checks.two_checked.Goals as goal

pub returns-in_err-one_checked : goal.returns-in_err-one_checked
returns-in_err-one_checked c =
    let q = c.args.q in
    let a = c.args.a.now in
    let b = c.args.b.now in
    let later = refuse_first (below q) 0 (length a) b accepted in
    handed_on _ c.from_residual.result c.from_residual.ensures.1 ∙ first_refused (below q) 0 a later c.in_err-one_checked.ensures
    ∙ sym (two_slices q a b accepted)

pub returns : goal.returns
returns c =
    let q = c.args.q in
    let a = c.args.a.now in
    let b = c.args.b.now in
    let later = refuse_first (below q) 0 (length a) b accepted in
    c.one_checked-2.ensures ∙ first_accepted (below q) 0 a later c.in_ok-one_checked.ensures
    ∙ sym (two_slices q a b accepted)
