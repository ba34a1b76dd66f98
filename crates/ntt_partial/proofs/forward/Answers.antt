-- `ntt_partial::forward` meets its contract: the checks decide, and only an accepted call writes.
-- Assumes nothing.
use mathlib.Core.Path.{◌≡◌, sym, ◌∙◌}
use lib.ListN.{length}
use Rattle.calls.specs.Outcome.{accepted}
use Rattle.calls.proofs.Outcome.{accepted_call, handed_call}
use Rattle.sets.proofs.Rules.{listed_set}
use Rattle.ntt_partial_checks.specs.Checks.{partial_answer_of}
use Rattle.ntt_partial.specs.Calls.{partial_sent, partial_left}
use Rattle.ntt_partial.proofs.Accepted.{Accepted, call_accepted, call_wide, wide_sent}
use Rattle.ntt_partial.proofs.forward.Goals.{In_ok-i}
use Rattle.ntt_partial.proofs.forward.Goals as goal

pub checked-requires : goal.checked-requires
checked-requires c = c.parameters_of-p.ensures

-- the checks accept
checks : (c : In_ok-i)
    → let args = c.args in
    partial_answer_of args.set args.rows args.row args.m args.input.now (length args.out.now) ≡ accepted
checks c = sym c.in_ok-i.ensures.1

-- so the call is one that they accept
call : (c : In_ok-i)
    → let args = c.args in
    Accepted args.set args.rows args.row args.m args.input.now (length args.out.now)
call c = call_accepted _ _ _ _ _ _ (checks c)

pub returns-in_err-i : goal.returns-in_err-i
unfolding partial_left
returns-in_err-i c =
    let whole = handed_call _ _ _ c.from_residual.result c.from_residual.ensures.1 (sym c.in_err-i.ensures) in record { answer = whole.0; left = whole.1 }

pub forward_wide-requires : goal.forward_wide-requires
forward_wide-requires c =
    let made = call (goal.at.forward_wide-requires c).In_ok-i in
    rw (c.in_ok-i.ensures.0, c.parameters_of-p.ensures)
    (listed_set _ made.low, call_wide made c.if-row-eq256.true, made.output ∙ sym made.split.places)

pub returns-then-row-eq256 : goal.returns-then-row-eq256
unfolding partial_left
returns-then-row-eq256 c =
    let made = call (goal.at.returns-then-row-eq256 c).In_ok-i in
    let sent = rw (c.in_ok-i.ensures.0, c.parameters_of-p.ensures) at c.forward_wide.ensures in
    let whole = accepted_call _ _ (checks (goal.at.returns-then-row-eq256 c).In_ok-i) (sent ∙ wide_sent made c.if-row-eq256.true) in
    record { answer = whole.0; left = whole.1 }

pub forward_plain-requires : goal.forward_plain-requires
forward_plain-requires c =
    let made = call (goal.at.forward_plain-requires c).In_ok-i in
    rw (c.in_ok-i.ensures.0, c.parameters_of-p.ensures) (listed_set _ made.low, made.split, made.output)

pub returns : goal.returns
unfolding partial_left partial_sent
returns c =
    let whole = accepted_call _ _ (checks (goal.at.returns c).In_ok-i) (rw (c.in_ok-i.ensures.0, c.parameters_of-p.ensures) at
    c.forward_plain.ensures) in record { answer = whole.0; left = whole.1 }
