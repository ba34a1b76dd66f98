-- `cca_steps::decapsulation::decapsulated_with_buffers` meets its contract: the numbers of the public key, the draw of the secret and encapsulating again
-- decide in this order.
-- Assumes nothing.
use mathlib.Core.Path.{◌≡◌, sym, ap, ◌∙◌}
use mathlib.Core.Bool.{true}
use mathlib.Core.List.{List}
use Prim.Native.Nat.{ℕ}
use borrow.Author.Rules.{rules}
use lib.ListN.{drop}
use Rattle.calls.proofs.Outcome.{refused_call, handed_on}
use Rattle.calls.proofs.Parts.{rest_whole}
use Rattle.scheme.specs.Encryption.{key_numbers}
use Rattle.scheme.specs.Answers.{only_residues}
use Rattle.cca_steps.proofs.Steps.{numbers_refuse, draw_refuses, decapsulated_made}
use Rattle.cca_steps.proofs.decapsulation.decapsulated_with_buffers.Goals.{After-key_below, Else-not-key_below}
use Rattle.cca_steps.proofs.decapsulation.decapsulated_with_buffers.Goals as goal

-- what that check tells
told : (c : After-key_below) → let args = c.args in
    only_residues args.p.q (key_numbers args.p (drop 32 args.secret.now)) ≡ c.key_below.result
told c =
    let args = c.args in
    let below : List ℕ → _ = λ (ls : List ℕ). only_residues args.p.q (key_numbers args.p ls) in
    sym (c.key_below.ensures ∙ ap below (rest_whole args.secret.now 32))

-- all numbers are below q
passed : (c : Else-not-key_below) → let args = c.args in
    only_residues args.p.q (key_numbers args.p (drop 32 args.secret.now)) ≡ true
passed c = told (goal.at.Else-not-key_below c).After-key_below ∙ c.if-not-key_below.false

pub returns-then-not-key_below : goal.returns-then-not-key_below
returns-then-not-key_below c =
    let args = c.args in
    let whole = refused_call _ _ (numbers_refuse args.p args.secret.now (told (goal.at.returns-then-not-key_below c).After-key_below
    ∙ c.if-not-key_below.true)) in record { answer = whole.0; agreed = whole.1 }

pub decrypt-requires : goal.decrypt-requires
decrypt-requires c =
    (c.requires.0, c.requires.1, search rules, search rules, search rules)

pub returns-in_err-decrypt : goal.returns-in_err-decrypt
returns-in_err-decrypt c =
    let args = c.args in
    let refusal = handed_on _ c.from_residual.result c.from_residual.ensures.1 in
    let left = refused_call _ _ (draw_refuses args.p args.secret.now (passed (goal.at.returns-in_err-decrypt c).Else-not-key_below)
    (sym c.in_err-decrypt.ensures.answer)) in record { answer = refusal ∙ left.0; agreed = left.1 }

pub key_of_message-requires : goal.key_of_message-requires
key_of_message-requires c =
    (c.requires.0, c.requires.1, search rules, search rules, search rules, search rules)

pub returns : goal.returns
returns c =
    let args = c.args in
    let message = c.in_ok-decrypt.ensures in
    let key = c.key_of_message.ensures in
    let whole = decapsulated_made args.p args.secret.now (passed (goal.at.returns c).Else-not-key_below) args.ciphertext.now _ args.message.now _ _
    args.shared.now _
    (sym message.answer) message.read message.halves key.answer key.agreed in record { answer = whole.0; agreed = whole.1 }
