-- `cca_steps::decapsulation::key_of_message` meets its contract: the message is encapsulated again under the public key inside the secret key, and what is
-- hashed follows from the comparison.
-- Assumes nothing.
use mathlib.Core.Path.{◌≡◌, sym, ap, ◌∙◌}
use Prim.Native.Nat.{◌-◌}
use borrow.Author.Rules.{rules}
use lib.ListN.{length, take, drop}
use Rattle.calls.specs.Outcome.{Outcome}
use Rattle.calls.proofs.Outcome.{leaves_refused, handed_on}
use Rattle.calls.proofs.Parts.{rest_whole}
use Rattle.scheme.specs.Answers.{encrypt_draws}
use Rattle.cca_steps.proofs.Steps.{shared_again}
use Rattle.cca_steps.proofs.decapsulation.key_of_message.Goals.{After-encapsulate}
use Rattle.cca_steps.proofs.decapsulation.key_of_message.Goals as goal

pub encapsulate-requires : goal.encapsulate-requires
encapsulate-requires c =
    (c.requires.0, c.requires.1, search rules, search rules, search rules)

-- what encapsulating again answers
again : (c : After-encapsulate) {o : Outcome}
    → o ≡ encrypt_draws c.args.p (take (length c.args.secret.now - 32) (drop 32 c.args.secret.now)) → o ≡ encrypt_draws c.args.p (drop 32 c.args.secret.now)
again c answered = answered ∙ ap (encrypt_draws c.args.p) (rest_whole c.args.secret.now 32)

pub returns-in_err-encapsulate : goal.returns-in_err-encapsulate
returns-in_err-encapsulate c =
    record {
      answer = handed_on _ c.from_residual.result c.from_residual.ensures.1
          ∙ again (goal.at.returns-in_err-encapsulate c).After-encapsulate c.in_err-encapsulate.ensures.answer;
      agreed = sym (leaves_refused _ _ (sym (again (goal.at.returns-in_err-encapsulate c).After-encapsulate c.in_err-encapsulate.ensures.answer)));
    }

pub returns : goal.returns
returns c =
    let args = c.args in
    let p = args.p in
    let decided = sym (again (goal.at.returns c).After-encapsulate c.in_ok-encapsulate.ensures.answer) in
    let shared = shared_again p (drop 32 args.secret.now) _ args.message.now (drop 32 args.expanded.now) args.ciphertext.now _
    args.again.now _ _ args.shared.now _ (rest_whole args.secret.now 32) decided c.in_ok-encapsulate.ensures.given
    c.same_bytes-agrees.ensures c.hashed_part-part.ensures.part c.shared_key_of.ensures in
    record { answer = sym decided; agreed = shared }
