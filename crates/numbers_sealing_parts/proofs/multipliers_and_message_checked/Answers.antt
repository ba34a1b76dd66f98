-- `numbers_sealing_parts::multipliers_and_message_checked` meets its contract: the multipliers are checked before the message.
-- Assumes nothing.
use mathlib.Core.Path.{◌∙◌}
use Prim.Native.Nat.{◌+◌}
use lib.ListN.{length}
use Rattle.calls.specs.Outcome.{accepted}
use Rattle.calls.specs.Checks.{below, refuse_first}
use Rattle.calls.proofs.Outcome.{handed_on}
use Rattle.middle.proofs.Chained.{first_refused, first_accepted}
use Rattle.numbers.specs.Calls.{is_multiplier_of}
use Rattle.numbers_sealing_parts.proofs.multipliers_and_message_checked.Goals as goal

pub returns-in_err-multipliers_checked : goal.returns-in_err-multipliers_checked
returns-in_err-multipliers_checked c =
    let later = refuse_first (below 2) 0 (c.args.offset + length c.args.r.now) c.args.m.now accepted in
    handed_on _ c.from_residual.result c.from_residual.ensures.1
    ∙ first_refused (is_multiplier_of c.args.p) c.args.offset c.args.r.now later c.in_err-multipliers_checked.ensures

pub returns : goal.returns
returns c =
    let later = refuse_first (below 2) 0 (c.args.offset + length c.args.r.now) c.args.m.now accepted in
    c.one_checked.ensures
    ∙ first_accepted (is_multiplier_of c.args.p) c.args.offset c.args.r.now later c.in_ok-multipliers_checked.ensures
