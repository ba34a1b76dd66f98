-- Only a draw of the key can be refused; where none is, sealing and reading accept what the key gives.
-- Assumes nothing.
use mathlib.Core.Path.{◌≡◌, sym, ◌∙◌}
use Rattle.calls.specs.Outcome.{accepted}
use Rattle.calls.proofs.Outcome.{accepted_refused, handed_on}
use Rattle.scheme.specs.Answers.{key_draws}
use Rattle.scheme.proofs.Conditions.{listed_conditions}
use Rattle.sheet_rows.proofs.SeededLaws.{three_steps}
use Rattle.sheet_rows.proofs.seeded.read_message.Goals.{In_ok-keygen}
use Rattle.sheet_rows.proofs.seeded.read_message.Goals as goal

-- no draw was refused
drawn : (c : In_ok-keygen) → key_draws c.args.p c.args.seed.now ≡ accepted
drawn c = sym c.in_ok-keygen.ensures.answer

pub keygen-requires : goal.keygen-requires
keygen-requires c =
    let pre = c.requires in
    (pre.0, pre.1, pre.2, pre.4)

pub returns-in_err-keygen : goal.returns-in_err-keygen
returns-in_err-keygen c =
    let told = handed_on _ c.from_residual.result c.from_residual.ensures.1 in
    record { answer = told ∙ c.in_err-keygen.ensures.answer; key = λ e. absurd (accepted_refused e told); read = λ e. absurd (accepted_refused e told) }

pub encrypt-requires : goal.encrypt-requires
encrypt-requires c =
    let pre = c.requires in
    let kept = c.keygen.auto in
    (pre.0, pre.1, kept.public_key ∙ pre.2, pre.3, kept.work ∙ pre.4)

pub decrypt-requires : goal.decrypt-requires
decrypt-requires c =
    let pre = c.requires in
    let first = c.keygen.auto in
    let second = c.encrypt.auto in (
      pre.0,
      pre.1,
      second.ciphertext ∙ pre.3,
      second.work ∙ first.work ∙ pre.4,
    )

pub returns : goal.returns
returns c =
    let args = c.args in
    let first = c.keygen.ensures in
    let left =
    three_steps (listed_conditions args.p c.requires.0 c.requires.1) args.seed.now args.message.now args.sealing.now
    (drawn (goal.at.returns c).In_ok-keygen) _ _ _ _ first.public first.secret c.encrypt.ensures.sealed c.decrypt.ensures.read in
    record { answer = c.in_ok-keygen.ensures.answer; key = λ _. left.0; read = λ _. left.1 }
