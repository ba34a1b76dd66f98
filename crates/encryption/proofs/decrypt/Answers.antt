-- `encryption::decrypt` meets its contract: the checks come in the order of the definition, and the work slice is cleared.
-- Assumes nothing.
use mathlib.Core.Path.{◌≡◌, sym, ap, ◌∙◌}
use Prim.Native.Nat.{ℕ}
use lib.ListN.{length, replicate}
use Rattle.calls.specs.Outcome.{accepted}
use Rattle.sets.specs.Table.{set_of}
use Rattle.sets.proofs.Schemes.{encryption_only}
use Rattle.sets.proofs.Lengths.{secret_other, ciphertext_other}
use Rattle.scheme.specs.Encryption.{decrypted_message}
use Rattle.sets.specs.Derived.{is_encryption}
use Rattle.scheme.specs.Answers.{decrypt_checks, decrypt_draws, decrypt_answer, message_left, decrypt_work}
use Rattle.scheme.proofs.Answers.{own_listed, own_bytes, decrypt_passed}
use Rattle.scheme_checks.proofs.Laws.{one_refused, one_drawn}
use Rattle.encryption.proofs.decrypt.Goals.{In_ok-p}
use Rattle.encryption.proofs.decrypt.Goals as goal

-- the checks passed
passed : (c : In_ok-p) → let args = c.args in
    decrypt_checks is_encryption args.set (length args.secret.now) (length args.ciphertext.now) (length args.message.now)
    (length args.work.now) ≡ accepted
unfolding is_encryption
passed c = sym c.in_ok-p.ensures.1

pub returns-in_err-p : goal.returns-in_err-p
unfolding is_encryption decrypt_answer message_left decrypt_work
returns-in_err-p c =
    let args = c.args in
    let p = set_of args.set in
    let whole = one_refused (decrypt_draws p args.secret.now args.ciphertext.now) args.work.now
    (decrypted_message p args.secret.now args.ciphertext.now) args.message.now
    _ c.from_residual.result c.from_residual.ensures.1 c.in_err-p.ensures in record { answer = whole.0; read = whole.1.0; cleared = whole.1.1 }

-- so the secret key and the message have 32 bytes
pub unwrap-requires : goal.unwrap-requires
unwrap-requires c =
    let set = c.args.set in
    let fit = decrypt_passed is_encryption set _ _ _ _ (passed (goal.at.unwrap-requires c).In_ok-p) in
    c.as_array.ensures.variant.1 (fit.1 ∙ secret_other set (encryption_only set fit.0.2))

pub unwrap-requires-2 : goal.unwrap-requires-2
unwrap-requires-2 c =
    c.as_mut_array.ensures.variant.1 (decrypt_passed is_encryption c.args.set _ _ _ _ (passed (goal.at.unwrap-requires-2 c).In_ok-p)).3

pub decrypt_if_below-answer-requires : goal.decrypt_if_below-answer-requires
decrypt_if_below-answer-requires c =
    let set = c.args.set in
    let fit = decrypt_passed is_encryption set _ _ _ _ (passed (goal.at.decrypt_if_below-answer-requires c).In_ok-p) in
    let other = encryption_only set fit.0.2 in
    rw c.in_ok-p.ensures.0 (
      own_bytes is_encryption set fit.0,
      own_listed is_encryption set fit.0,
      fit.2 ∙ ciphertext_other set other,
      fit.4,
    )

pub returns : goal.returns
unfolding decrypt_answer message_left decrypt_work
returns c =
    let args = c.args in
    let p = set_of args.set in
    let made = c.decrypt_if_below-answer in
    let secret = (rw c.unwrap.ensures at c.as_array.ensures.cases).same in
    let message = (rw c.unwrap-2.ensures at c.as_mut_array.ensures.cases).same in
    let left = rw (c.in_ok-p.ensures.0, secret, message) at made.ensures in
    let whole = one_drawn (decrypt_draws p args.secret.now args.ciphertext.now) args.work.now
    (decrypted_message p args.secret.now args.ciphertext.now) args.message.now
    (passed (goal.at.returns c).In_ok-p) (left.answer, left.read) (c.clear.ensures ∙ ap (λ (n : ℕ). replicate n 0) made.auto.work) in
    record { answer = whole.0; read = whole.1.0; cleared = whole.1.1 }
