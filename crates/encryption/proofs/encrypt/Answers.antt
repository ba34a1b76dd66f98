-- `encryption::encrypt` meets its contract: the checks come in the order of the definition, and the work slice is cleared.
-- Assumes nothing.
use mathlib.Core.Path.{◌≡◌, sym, ap, ◌∙◌}
use Prim.Native.Nat.{ℕ}
use lib.ListN.{length, replicate}
use Rattle.calls.specs.Outcome.{accepted}
use Rattle.sets.specs.Table.{set_of}
use Rattle.sets.specs.Derived.{is_encryption}
use Rattle.sets.proofs.Schemes.{encryption_only}
use Rattle.sets.proofs.Lengths.{ciphertext_other}
use Rattle.scheme.specs.Encryption as scheme
use Rattle.scheme.specs.Answers.{encrypt_checks, encrypt_draws, encrypt_answer, ciphertext_left, encrypt_work}
use Rattle.scheme.proofs.Answers.{own_listed, own_bytes, encrypt_passed}
use Rattle.scheme_checks.proofs.Laws.{one_refused, one_drawn}
use Rattle.encryption.proofs.encrypt.Goals.{In_ok-p}
use Rattle.encryption.proofs.encrypt.Goals as goal

-- the checks passed
passed : (c : In_ok-p) → let args = c.args in
    encrypt_checks is_encryption args.set (length args.public.now) (length args.message.now) (length args.seed.now)
    (length args.ciphertext.now) (length args.work.now) ≡ accepted
unfolding is_encryption
passed c = sym c.in_ok-p.ensures.1

pub returns-in_err-p : goal.returns-in_err-p
unfolding is_encryption encrypt_answer ciphertext_left encrypt_work
returns-in_err-p c =
    let args = c.args in
    let p = set_of args.set in
    let whole = one_refused (encrypt_draws p args.public.now) args.work.now
    (scheme.ciphertext p args.public.now args.message.now args.seed.now) args.ciphertext.now
    _ c.from_residual.result c.from_residual.ensures.1 c.in_err-p.ensures in record { answer = whole.0; given = whole.1.0; cleared = whole.1.1 }

-- so the message and the seed have 32 bytes
pub unwrap-requires : goal.unwrap-requires
unwrap-requires c = c.as_array.ensures.variant.1 (encrypt_passed is_encryption c.args.set _ _ _ _ _ (passed (goal.at.unwrap-requires c).In_ok-p)).2

pub unwrap-requires-2 : goal.unwrap-requires-2
unwrap-requires-2 c = c.as_array-2.ensures.variant.1 (encrypt_passed is_encryption c.args.set _ _ _ _ _ (passed (goal.at.unwrap-requires-2 c).In_ok-p)).3

pub encrypt-answer-requires : goal.encrypt-answer-requires
encrypt-answer-requires c =
    let set = c.args.set in
    let fit = encrypt_passed is_encryption set _ _ _ _ _ (passed (goal.at.encrypt-answer-requires c).In_ok-p) in
    rw c.in_ok-p.ensures.0 (
      own_bytes is_encryption set fit.0,
      own_listed is_encryption set fit.0,
      fit.1,
      fit.4 ∙ ciphertext_other set (encryption_only set fit.0.2),
      fit.5,
    )

pub returns : goal.returns
unfolding encrypt_answer ciphertext_left encrypt_work
returns c =
    let args = c.args in
    let p = set_of args.set in
    let made = c.encrypt-answer in
    let message = (rw c.unwrap.ensures at c.as_array.ensures.cases).same in
    let seed = (rw c.unwrap-2.ensures at c.as_array-2.ensures.cases).same in
    let left = rw (c.in_ok-p.ensures.0, message, seed) at made.ensures in
    let whole = one_drawn (encrypt_draws p args.public.now) args.work.now
    (scheme.ciphertext p args.public.now args.message.now args.seed.now) args.ciphertext.now
    (passed (goal.at.returns c).In_ok-p) (left.answer, left.sealed) (c.clear.ensures ∙ ap (λ (n : ℕ). replicate n 0) made.auto.work) in
    record { answer = whole.0; given = whole.1.0; cleared = whole.1.1 }
