-- Only a draw of the key can be refused, and where none is, noise and bits are those of the definitions.
-- Assumes nothing.
use mathlib.Core.Path.{◌≡◌, refl, sym, ◌∙◌}
use Rattle.calls.specs.Outcome.{accepted}
use Rattle.calls.proofs.Outcome.{accepted_refused, handed_on}
use Rattle.scheme.specs.Answers.{key_draws}
use Rattle.claim.proofs.Draws.{key_drawn}
use Rattle.sheet_rows.proofs.SeededLaws.{rows_filled}
use Rattle.sheet_rows.proofs.seeded.rows_with_buffers.Goals.{In_ok-read_message}
use Rattle.sheet_rows.proofs.seeded.rows_with_buffers.Goals as goal

-- no draw was refused
drawn : (c : In_ok-read_message) → key_draws c.args.p c.args.seed.now ≡ accepted
drawn c = sym c.in_ok-read_message.ensures.answer

pub returns-in_err-read_message : goal.returns-in_err-read_message
returns-in_err-read_message c =
    let told = handed_on _ c.from_residual.result c.from_residual.ensures.1 in
    record { answer = told ∙ c.in_err-read_message.ensures.answer; rows = λ e. absurd (accepted_refused e told) }

pub noise_of-requires : goal.noise_of-requires
noise_of-requires c =
    let pre = c.requires in (
      pre.0,
      pre.1,
      c.in_ok-read_message.ensures.key refl,
      (key_drawn c.args.p c.args.seed.now (drawn (goal.at.noise_of-requires c).In_ok-read_message)).0,
      pre.4,
      c.read_message.auto.work ∙ pre.7,
    )

pub returns : goal.returns
returns c =
    let args = c.args in
    let pre = c.requires in
    let opened = c.in_ok-read_message.ensures.read refl in
    let values = c.noise_of.ensures in record {
      answer = c.in_ok-read_message.ensures.answer;
      rows = λ _. rows_filled args.p args.seed.now args.message.now args.sealing.now _ _ _ _ _ _
          values.values values.sizes c.bits_of.ensures pre.5 c.bits_of-2.ensures pre.6 opened;
    }
