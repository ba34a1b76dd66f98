-- `exchange::key` meets its contract: the checks come in the order of the definition, and the work slice is cleared.
-- Assumes nothing.
use mathlib.Core.Path.{◌≡◌, sym, ap, ◌∙◌}
use Prim.Native.Nat.{ℕ}
use lib.ListN.{length, replicate}
use Rattle.calls.specs.Outcome.{accepted}
use Rattle.sets.specs.Table.{set_of}
use Rattle.sets.proofs.Lengths.{secret_exchange}
use Rattle.scheme.specs.Exchange.{inner_seed, exchange_public_key, exchange_secret_key}
use Rattle.sets.specs.Derived.{is_exchange}
use Rattle.scheme.specs.Answers.{key_checks, key_draws, exchange_key_answer, exchange_public_left, exchange_secret_left, exchange_key_work}
use Rattle.scheme.proofs.Answers.{own_listed, own_bytes, key_passed}
use Rattle.scheme_checks.proofs.Laws.{two_refused, two_drawn}
use Rattle.exchange.proofs.key.Goals.{In_ok-p}
use Rattle.exchange.proofs.key.Goals as goal

-- the checks passed
passed : (c : In_ok-p) → let args = c.args in
    key_checks is_exchange args.set (length args.seed.now) (length args.public.now) (length args.secret.now)
    (length args.work.now) ≡ accepted
unfolding is_exchange
passed c = sym c.in_ok-p.ensures.1

pub returns-in_err-p : goal.returns-in_err-p
unfolding is_exchange exchange_key_answer exchange_public_left exchange_secret_left exchange_key_work
returns-in_err-p c =
    let args = c.args in
    let p = set_of args.set in
    let whole = two_refused (key_draws p (inner_seed p args.seed.now)) args.work.now
    (exchange_public_key p args.seed.now) args.public.now
    (exchange_secret_key p args.seed.now) args.secret.now
    _ c.from_residual.result c.from_residual.ensures.1 c.in_err-p.ensures in
    record { answer = whole.0; given = whole.1.0; kept = whole.1.1.0; cleared = whole.1.1.1 }

-- so the seed has 32 bytes
pub unwrap-requires : goal.unwrap-requires
unwrap-requires c = c.as_array.ensures.variant.1 (key_passed is_exchange c.args.set _ _ _ _ (passed (goal.at.unwrap-requires c).In_ok-p)).1

pub keygen-answer-requires : goal.keygen-answer-requires
keygen-answer-requires c =
    let set = c.args.set in
    let fit = key_passed is_exchange set _ _ _ _ (passed (goal.at.keygen-answer-requires c).In_ok-p) in
    rw c.in_ok-p.ensures.0 (
      own_bytes is_exchange set fit.0,
      own_listed is_exchange set fit.0,
      fit.2,
      fit.3 ∙ secret_exchange set fit.0.2,
      fit.4,
    )

pub returns : goal.returns
unfolding exchange_key_answer exchange_public_left exchange_secret_left exchange_key_work
returns c =
    let args = c.args in
    let p = set_of args.set in
    let made = c.keygen-answer in
    let seed = (rw c.unwrap.ensures at c.as_array.ensures.cases).same in
    let left = rw (c.in_ok-p.ensures.0, seed) at made.ensures in
    let whole = two_drawn (key_draws p (inner_seed p args.seed.now)) args.work.now
    (exchange_public_key p args.seed.now) args.public.now
    (exchange_secret_key p args.seed.now) args.secret.now
    (passed (goal.at.returns c).In_ok-p) (left.answer, (left.given, left.kept)) (c.clear.ensures ∙ ap (λ (n : ℕ). replicate n 0) made.auto.work) in
    record { answer = whole.0; given = whole.1.0; kept = whole.1.1.0; cleared = whole.1.1.1 }
