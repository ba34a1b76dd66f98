-- `seal_and_read::seal_and_read` meets its contract: the checks of all calls come first; once key is accepted, demand 3 says that the other two are.
-- Assumes nothing.
use mathlib.Core.Path.{◌≡◌, refl, sym, ◌∙◌}
use Rattle.calls.specs.Outcome.{accepted}
use Rattle.calls.proofs.Outcome.{handed_on, accepted_refused}
use Rattle.sets.specs.Derived.{is_encryption}
use Rattle.seal_and_read.specs.Answers.{seal_and_read_checked}
use Rattle.seal_and_read.proofs.SealAndRead.{all_fit, checks_refuse, key_refuses, encrypt_accepts, all_accept}
use Rattle.seal_and_read.proofs.seal_and_read.Goals.{In_ok-round_trip_checked}
use Rattle.seal_and_read.proofs.seal_and_read.Goals as goal

-- the checks of all three calls passed
passed : (c : In_ok-round_trip_checked) → let args = c.args in
    all_fit args.set args.seed.now args.message.now args.sealing.now args.public.now args.secret.now
    args.sealed.now args.read.now args.work.now ≡ accepted
unfolding is_encryption seal_and_read_checked
passed c = sym c.in_ok-round_trip_checked.ensures.1

pub returns-in_err-round_trip_checked : goal.returns-in_err-round_trip_checked
unfolding is_encryption seal_and_read_checked
returns-in_err-round_trip_checked c =
    let args = c.args in
    let told = handed_on _ c.from_residual.result c.from_residual.ensures.1 in
    let whole = checks_refuse args.set args.seed.now args.message.now args.sealing.now args.public.now args.secret.now
    args.sealed.now args.read.now args.work.now
    (told ∙ c.in_err-round_trip_checked.ensures) told in
    record {
      answer = whole.0;
      given = whole.1.0;
      kept = whole.1.1.0;
      sent = whole.1.1.1.0;
      opened = whole.1.1.1.1.0;
      cleared = whole.1.1.1.1.1.0;
      claim = whole.1.1.1.1.1.1;
    }

-- a draw of the key is refused
pub returns-in_err-key : goal.returns-in_err-key
returns-in_err-key c =
    let args = c.args in
    let told = handed_on _ c.from_residual-in_err-key.result c.from_residual-in_err-key.ensures.1 in
    let whole = key_refuses args.set args.seed.now args.message.now args.sealing.now args.public.now args.secret.now
    args.sealed.now args.read.now args.work.now
    (passed (goal.at.returns-in_err-key c).In_ok-round_trip_checked) told (
      told ∙ c.in_err-key.ensures.answer,
      (c.in_err-key.ensures.given, (c.in_err-key.ensures.kept, c.in_err-key.ensures.cleared)),
    ) in record {
      answer = whole.0;
      given = whole.1.0;
      kept = whole.1.1.0;
      sent = whole.1.1.1.0;
      opened = whole.1.1.1.1.0;
      cleared = whole.1.1.1.1.1.0;
      claim = whole.1.1.1.1.1.1;
    }

-- encrypt is accepted once key is
pub returns-in_err-encrypt : goal.returns-in_err-encrypt
returns-in_err-encrypt c =
    let args = c.args in
    let bytes = c.shared_slice_known-2-1.given in
    let accepts = encrypt_accepts args.set args.seed.now args.message.now args.sealing.now args.public.now args.secret.now
    args.sealed.now args.read.now args.work.now
    (passed (goal.at.returns-in_err-encrypt c).In_ok-round_trip_checked) _ _ _ (
      c.in_ok-key.ensures.answer,
      (c.in_ok-key.ensures.given, (c.in_ok-key.ensures.kept, c.in_ok-key.ensures.cleared)),
    ) (λ k. (bytes k).fits) in
    absurd (accepted_refused (c.in_err-encrypt.ensures.answer ∙ accepts) refl)

-- all three calls are accepted
pub returns : goal.returns
returns c =
    let args = c.args in
    let bytes = c.shared_slice_known-2-1.given in
    let whole = all_accept args.set args.seed.now args.message.now args.sealing.now args.public.now args.secret.now
    args.sealed.now args.read.now args.work.now
    (passed (goal.at.returns c).In_ok-round_trip_checked) _ _ _ (
      c.in_ok-key.ensures.answer,
      (c.in_ok-key.ensures.given, (c.in_ok-key.ensures.kept, c.in_ok-key.ensures.cleared)),
    ) (λ k. (bytes k).fits)
    _ _ (c.encrypt.ensures.given, c.encrypt.ensures.cleared)
    (c.decrypt.ensures.answer, (c.decrypt.ensures.read, c.decrypt.ensures.cleared)) in
    record {
      answer = whole.0;
      given = whole.1.0;
      kept = whole.1.1.0;
      sent = whole.1.1.1.0;
      opened = whole.1.1.1.1.0;
      cleared = whole.1.1.1.1.1.0;
      claim = whole.1.1.1.1.1.1;
    }
