-- The checks of the input decide between its rows and the refusal.
-- Assumes nothing.
use mathlib.Core.Path.{◌≡◌, sym, ap, ◌∙◌}
use Prim.Native.Nat.{ℕ}
use Rattle.calls.specs.Outcome.{outcome, accepted}
use Rattle.sheet_parts.specs.Checks.{has_sheet_of, input_bytes_of, input_answer}
use Rattle.sheet_parts.proofs.Laws.{input_empty, input_is, printed_as}
use Rattle.sheet_rows.specs.Input.{rows_answer}
use Rattle.sheet.specs.Sheet.{answer_text, rows_text}
use Rattle.sheet.proofs.SheetLaws.{checked_text, unchecked_text}
use Rattle.sheet.proofs.text.write.Goals.{In-Ok}
use Rattle.sheet.proofs.text.write.Goals as goal

pub returns-then-input-lt1 : goal.returns-then-input-lt1
returns-then-input-lt1 c =
    let made = c.write_refused.ensures in
    let input = c.args.input.now in
    printed_as (unchecked_text input (input_empty input accepted c.if-input-lt1.true))
    (record { count_is = made.value; short = made.upper_bound; text_is = made.out_after })

-- the input passes its checks
passed : (c : In-Ok) → input_answer c.args.input.now accepted ≡ accepted
passed c = sym c.checked-checked.ensures ∙ ap outcome c.in-Ok.is

pub write_checked-requires : goal.write_checked-requires
write_checked-requires c =
    let byte = c.set_byte-set.ensures in
    let is = input_is c.args.input.now accepted (passed (goal.at.write_checked-requires c).In-Ok) in
    (ap has_sheet_of byte ∙ is.1, is.2 ∙ sym (ap input_bytes_of byte), c.requires.0, c.requires.1, c.parameters_of-p.ensures)

pub returns-in-Ok : goal.returns-in-Ok
returns-in-Ok c =
    let input = c.args.input.now in
    printed_as
    (ap (λ (set : ℕ). answer_text (rows_answer set input) (rows_text set input)) c.set_byte-set.ensures ∙ checked_text input
    (passed (goal.at.returns-in-Ok c).In-Ok))
    c.write_checked.ensures

pub returns-in-Err : goal.returns-in-Err
returns-in-Err c =
    let made = rw (c.number.ensures, c.place.ensures) at c.write_refused-in-Err.ensures in
    printed_as
    (unchecked_text c.args.input.now
    (sym c.checked-checked.ensures ∙ ap outcome c.in-Err.is))
    (record { count_is = made.value; short = made.upper_bound; text_is = made.out_after })
