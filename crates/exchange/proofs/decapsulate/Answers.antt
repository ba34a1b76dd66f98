-- `exchange::decapsulate` meets its contract: the checks come in the order of the definition, and the work slice is cleared.
-- Assumes nothing.
use mathlib.Core.Path.{◌≡◌, sym, ap, ◌∙◌}
use Prim.Native.Nat.{ℕ}
use lib.ListN.{length, replicate}
use Rattle.calls.specs.Outcome.{accepted}
use Rattle.sets.specs.Table.{set_of}
use Rattle.sets.proofs.Lengths.{secret_exchange, ciphertext_exchange}
use Rattle.scheme.specs.Exchange.{decapsulated}
use Rattle.sets.specs.Derived.{is_exchange}
use Rattle.scheme.specs.Answers.{decrypt_checks, decapsulate_draws, decapsulate_answer, decapsulated_left, decapsulate_work}
use Rattle.scheme.proofs.Answers.{own_listed, own_bytes, decrypt_passed}
use Rattle.scheme_checks.proofs.Laws.{one_refused, one_drawn}
use Rattle.exchange.proofs.decapsulate.Goals.{In_ok-p}
use Rattle.exchange.proofs.decapsulate.Goals as goal

-- the checks passed
passed : (c : In_ok-p) → let args = c.args in
    decrypt_checks is_exchange args.set (length args.secret.now) (length args.ciphertext.now) (length args.shared.now)
    (length args.work.now) ≡ accepted
unfolding is_exchange
passed c = sym c.in_ok-p.ensures.1

pub returns-in_err-p : goal.returns-in_err-p
unfolding is_exchange decapsulate_answer decapsulated_left decapsulate_work
returns-in_err-p c =
    let args = c.args in
    let p = set_of args.set in
    let whole = one_refused (decapsulate_draws p args.secret.now) args.work.now
    (decapsulated p args.secret.now args.ciphertext.now) args.shared.now
    _ c.from_residual.result c.from_residual.ensures.1 c.in_err-p.ensures in record { answer = whole.0; agreed = whole.1.0; cleared = whole.1.1 }

-- so the shared key has 32 bytes
pub unwrap-requires : goal.unwrap-requires
unwrap-requires c = c.as_mut_array.ensures.variant.1 (decrypt_passed is_exchange c.args.set _ _ _ _ (passed (goal.at.unwrap-requires c).In_ok-p)).3

pub decapsulated_key-answer-requires : goal.decapsulated_key-answer-requires
decapsulated_key-answer-requires c =
    let set = c.args.set in
    let fit = decrypt_passed is_exchange set _ _ _ _ (passed (goal.at.decapsulated_key-answer-requires c).In_ok-p) in
    rw c.in_ok-p.ensures.0 (
      own_bytes is_exchange set fit.0,
      own_listed is_exchange set fit.0,
      fit.1 ∙ secret_exchange set fit.0.2,
      fit.2 ∙ ciphertext_exchange set fit.0.2,
      fit.4,
    )

pub returns : goal.returns
unfolding decapsulate_answer decapsulated_left decapsulate_work
returns c =
    let args = c.args in
    let p = set_of args.set in
    let made = c.decapsulated_key-answer in
    let shared = (rw c.unwrap.ensures at c.as_mut_array.ensures.cases).same in
    let left = rw (c.in_ok-p.ensures.0, shared) at made.ensures in
    let whole = one_drawn (decapsulate_draws p args.secret.now) args.work.now
    (decapsulated p args.secret.now args.ciphertext.now) args.shared.now
    (passed (goal.at.returns c).In_ok-p) (left.answer, left.agreed) (c.clear.ensures ∙ ap (λ (n : ℕ). replicate n 0) made.auto.work) in
    record { answer = whole.0; agreed = whole.1.0; cleared = whole.1.1 }
