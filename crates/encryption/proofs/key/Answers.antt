-- `encryption::key` meets its contract: the checks come in the order of the definition, and the work slice is cleared.
-- Assumes nothing.
use mathlib.Core.Path.{◌≡◌, sym, ap, ◌∙◌}
use Prim.Native.Nat.{ℕ}
use lib.ListN.{length, replicate}
use Rattle.calls.specs.Outcome.{accepted}
use Rattle.sets.specs.Table.{set_of}
use Rattle.sets.proofs.Schemes.{encryption_only}
use Rattle.sets.proofs.Lengths.{secret_other}
use Rattle.scheme.specs.Encryption.{secret_seed, public_key}
use Rattle.sets.specs.Derived.{is_encryption}
use Rattle.scheme.specs.Answers.{key_checks, key_draws, encryption_key_answer, encryption_public_left, encryption_secret_left, encryption_key_work}
use Rattle.scheme.proofs.Answers.{own_listed, own_bytes, key_passed}
use Rattle.scheme_checks.proofs.Laws.{two_refused, two_drawn}
use Rattle.encryption.proofs.key.Goals.{In_ok-p}
use Rattle.encryption.proofs.key.Goals as goal

-- the checks passed
passed : (c : In_ok-p) → let args = c.args in
    key_checks is_encryption args.set (length args.seed.now) (length args.public.now) (length args.secret.now)
    (length args.work.now) ≡ accepted
unfolding is_encryption
passed c = sym c.in_ok-p.ensures.1

pub returns-in_err-p : goal.returns-in_err-p
unfolding is_encryption encryption_key_answer encryption_public_left encryption_secret_left encryption_key_work
returns-in_err-p c =
    let args = c.args in
    let p = set_of args.set in
    let whole = two_refused (key_draws p args.seed.now) args.work.now
    (public_key p args.seed.now) args.public.now
    (secret_seed p args.seed.now) args.secret.now
    _ c.from_residual.result c.from_residual.ensures.1 c.in_err-p.ensures in
    record { answer = whole.0; given = whole.1.0; kept = whole.1.1.0; cleared = whole.1.1.1 }

-- so the seed and the secret key have 32 bytes
pub unwrap-requires : goal.unwrap-requires
unwrap-requires c = c.as_array.ensures.variant.1 (key_passed is_encryption c.args.set _ _ _ _ (passed (goal.at.unwrap-requires c).In_ok-p)).1

pub unwrap-requires-2 : goal.unwrap-requires-2
unwrap-requires-2 c =
    let set = c.args.set in
    let fit = key_passed is_encryption set _ _ _ _ (passed (goal.at.unwrap-requires-2 c).In_ok-p) in
    c.as_mut_array.ensures.variant.1 (fit.3 ∙ secret_other set (encryption_only set fit.0.2))

pub keygen-answer-requires : goal.keygen-answer-requires
keygen-answer-requires c =
    let set = c.args.set in
    let fit = key_passed is_encryption set _ _ _ _ (passed (goal.at.keygen-answer-requires c).In_ok-p) in
    rw c.in_ok-p.ensures.0 (
      own_bytes is_encryption set fit.0,
      own_listed is_encryption set fit.0,
      fit.2,
      fit.4,
    )

pub returns : goal.returns
unfolding encryption_key_answer encryption_public_left encryption_secret_left encryption_key_work
returns c =
    let args = c.args in
    let p = set_of args.set in
    let made = c.keygen-answer in
    let seed = (rw c.unwrap.ensures at c.as_array.ensures.cases).same in
    let secret = (rw c.unwrap-2.ensures at c.as_mut_array.ensures.cases).same in
    let left = rw (c.in_ok-p.ensures.0, seed, secret) at made.ensures in
    let whole = two_drawn (key_draws p args.seed.now) args.work.now
    (public_key p args.seed.now) args.public.now
    (secret_seed p args.seed.now) args.secret.now
    (passed (goal.at.returns c).In_ok-p) (left.answer, (left.public, left.secret)) (c.clear.ensures ∙ ap (λ (n : ℕ). replicate n 0) made.auto.work) in
    record { answer = whole.0; given = whole.1.0; kept = whole.1.1.0; cleared = whole.1.1.1 }
