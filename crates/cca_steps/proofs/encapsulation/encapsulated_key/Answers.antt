-- `cca_steps::encapsulation::encapsulated_key` meets its contract: the shared key is made of the ciphertext written, and none where that is refused.
-- Assumes nothing.
use mathlib.Core.Path.{sym, ◌∙◌}
use Rattle.calls.proofs.Outcome.{leaves_refused, handed_on}
use Rattle.cca_steps.proofs.Steps.{shared_made}
use Rattle.cca_steps.proofs.encapsulation.encapsulated_key.Goals as goal

pub returns-in_err-encapsulate : goal.returns-in_err-encapsulate
returns-in_err-encapsulate c =
    let made = c.in_err-encapsulate.ensures in
    let told = handed_on _ c.from_residual.result c.from_residual.ensures.1 in
    record { answer = told ∙ made.answer; given = made.given; agreed = sym (leaves_refused _ _ (sym made.answer)) }

pub returns : goal.returns
returns c =
    let args = c.args in
    let made = c.in_ok-encapsulate.ensures in
    let decided = sym made.answer in
    let hashed = c.shared_key_of.ensures in
    let p = args.p in
    let shared = shared_made p args.public.now args.message.now _ args.ciphertext.now _ args.shared.now decided made.given hashed in
    record { answer = made.answer; given = made.given; agreed = shared }
