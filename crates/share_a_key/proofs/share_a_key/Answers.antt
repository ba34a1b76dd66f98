-- `share_a_key::share_a_key` meets its contract: the checks of all calls come first; once key is accepted, demand 3 says that the other two are.
-- Assumes nothing.
use mathlib.Core.Path.{◌≡◌, refl, sym, ◌∙◌}
use Rattle.calls.specs.Outcome.{accepted}
use Rattle.calls.proofs.Outcome.{handed_on, accepted_refused}
use Rattle.sets.specs.Derived.{is_exchange}
use Rattle.share_a_key.specs.Answers.{share_a_key_checked}
use Rattle.share_a_key.proofs.ShareAKey.{all_fit, checks_refuse, key_refuses, encapsulate_accepts, all_accept}
use Rattle.share_a_key.proofs.share_a_key.Goals.{In_ok-round_trip_checked}
use Rattle.share_a_key.proofs.share_a_key.Goals as goal

-- the checks of all three calls passed
passed : (c : In_ok-round_trip_checked) → let args = c.args in
    all_fit args.set args.seed.now args.message.now args.public.now args.secret.now args.sealed.now
    args.sent.now args.received.now args.work.now ≡ accepted
unfolding is_exchange share_a_key_checked
passed c = sym c.in_ok-round_trip_checked.ensures.1

pub returns-in_err-round_trip_checked : goal.returns-in_err-round_trip_checked
unfolding is_exchange share_a_key_checked
returns-in_err-round_trip_checked c =
    let args = c.args in
    let told = handed_on _ c.from_residual.result c.from_residual.ensures.1 in
    let whole = checks_refuse args.set args.seed.now args.message.now args.public.now args.secret.now args.sealed.now
    args.sent.now args.received.now args.work.now
    (told ∙ c.in_err-round_trip_checked.ensures) told in
    record {
      answer = whole.0;
      given = whole.1.0;
      kept = whole.1.1.0;
      closed = whole.1.1.1.0;
      agreed = whole.1.1.1.1.0;
      opened = whole.1.1.1.1.1.0;
      cleared = whole.1.1.1.1.1.1.0;
      claim = whole.1.1.1.1.1.1.1;
    }

-- a draw of the key is refused
pub returns-in_err-key : goal.returns-in_err-key
returns-in_err-key c =
    let args = c.args in
    let told = handed_on _ c.from_residual-in_err-key.result c.from_residual-in_err-key.ensures.1 in
    let whole = key_refuses args.set args.seed.now args.message.now args.public.now args.secret.now args.sealed.now
    args.sent.now args.received.now args.work.now
    (passed (goal.at.returns-in_err-key c).In_ok-round_trip_checked) told (
      told ∙ c.in_err-key.ensures.answer,
      (c.in_err-key.ensures.given, (c.in_err-key.ensures.kept, c.in_err-key.ensures.cleared)),
    ) in record {
      answer = whole.0;
      given = whole.1.0;
      kept = whole.1.1.0;
      closed = whole.1.1.1.0;
      agreed = whole.1.1.1.1.0;
      opened = whole.1.1.1.1.1.0;
      cleared = whole.1.1.1.1.1.1.0;
      claim = whole.1.1.1.1.1.1.1;
    }

-- encapsulate is accepted once key is
pub returns-in_err-encapsulate : goal.returns-in_err-encapsulate
returns-in_err-encapsulate c =
    let args = c.args in
    let bytes = c.shared_slice_known-2-1.given in
    let accepts = encapsulate_accepts args.set args.seed.now args.message.now args.public.now args.secret.now args.sealed.now
    args.sent.now args.received.now args.work.now
    (passed (goal.at.returns-in_err-encapsulate c).In_ok-round_trip_checked) _ _ _ (
      c.in_ok-key.ensures.answer,
      (c.in_ok-key.ensures.given, (c.in_ok-key.ensures.kept, c.in_ok-key.ensures.cleared)),
    ) (λ k. (bytes k).fits) in
    absurd (accepted_refused (c.in_err-encapsulate.ensures.answer ∙ accepts) refl)

-- all three calls are accepted
pub returns : goal.returns
returns c =
    let args = c.args in
    let bytes = c.shared_slice_known-2-1.given in let whole = all_accept args.set args.seed.now args.message.now args.public.now args.secret.now args.sealed.now
    args.sent.now args.received.now args.work.now
    (passed (goal.at.returns c).In_ok-round_trip_checked) _ _ _ (
      c.in_ok-key.ensures.answer,
      (c.in_ok-key.ensures.given, (c.in_ok-key.ensures.kept, c.in_ok-key.ensures.cleared)),
    ) (λ k. (bytes k).fits)
    _ _ _ (c.encapsulate.ensures.given, (c.encapsulate.ensures.agreed, c.encapsulate.ensures.cleared))
    (c.decapsulate.ensures.answer, (c.decapsulate.ensures.agreed, c.decapsulate.ensures.cleared)) in
    record {
      answer = whole.0;
      given = whole.1.0;
      kept = whole.1.1.0;
      closed = whole.1.1.1.0;
      agreed = whole.1.1.1.1.0;
      opened = whole.1.1.1.1.1.0;
      cleared = whole.1.1.1.1.1.1.0;
      claim = whole.1.1.1.1.1.1.1;
    }
