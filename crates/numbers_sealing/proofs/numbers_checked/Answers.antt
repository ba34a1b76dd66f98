-- `numbers_sealing::numbers_checked` meets its contract: a and b are checked before r and the message.
-- Assumes nothing.
use mathlib.Core.Path.{◌∙◌}
use mathlib.Core.List.{◌++◌}
use Prim.Native.Nat.{◌+◌}
use lib.ListN.{length}
use Rattle.calls.specs.Outcome.{accepted}
use Rattle.calls.specs.Checks.{below, refuse_first}
use Rattle.calls.proofs.Outcome.{handed_on}
use Rattle.middle.proofs.Chained.{first_refused, first_accepted}
use Rattle.numbers.specs.Calls.{is_multiplier_of}
use Rattle.numbers_sealing.proofs.numbers_checked.Goals as goal

pub returns-in_err-two_checked : goal.returns-in_err-two_checked
returns-in_err-two_checked c =
    let a = c.args.a.now in
    let b = c.args.b.now in
    let r = c.args.r.now in
    let later = refuse_first (is_multiplier_of c.args.p) 0 (length a + length b) r
    (refuse_first (below 2) 0 (length a + length b + length r) c.args.m.now accepted) in
    handed_on _ c.from_residual.result c.from_residual.ensures.1
    ∙ first_refused (below c.args.p.q) 0 (a ++ b) later c.in_err-two_checked.ensures

pub returns : goal.returns
returns c =
    let a = c.args.a.now in
    let b = c.args.b.now in
    let r = c.args.r.now in
    let later = refuse_first (is_multiplier_of c.args.p) 0 (length a + length b) r
    (refuse_first (below 2) 0 (length a + length b + length r) c.args.m.now accepted) in
    c.multipliers_and_message_checked.ensures
    ∙ first_accepted (below c.args.p.q) 0 (a ++ b) later c.in_ok-two_checked.ensures
