-- The checks come in the order of the definition.
-- Assumes nothing.
use mathlib.Core.Path.{◌≡◌, sym, ap, ◌∙◌}
use Rattle.calls.specs.Outcome.{accepted}
use Rattle.sheet_parts.specs.Checks.{has_sheet_of, input_bytes_of, set_byte_of}
use Rattle.sheet_parts.proofs.Laws.{input_set, input_length, input_passed}
use Rattle.sheet_parts.proofs.checked.Goals.{After-has_sheet, After-input_bytes}
use Rattle.sheet_parts.proofs.checked.Goals as goal

-- the test of the set is that of the set byte
tested : (c : After-has_sheet) → has_sheet_of (set_byte_of c.args.input.now) ≡ c.has_sheet.result
tested c = ap has_sheet_of (sym c.requires.1) ∙ sym c.has_sheet.ensures

-- and so is the length
long : (c : After-input_bytes) → c.input_bytes.result ≡ input_bytes_of (set_byte_of c.args.input.now)
long c = c.input_bytes.ensures ∙ ap input_bytes_of c.requires.1

pub has_sheet-requires : goal.has_sheet-requires
has_sheet-requires c = c.requires.2

pub returns-then-not-has_sheet : goal.returns-then-not-has_sheet
returns-then-not-has_sheet c =
    sym (input_set c.args.input.now accepted c.requires.0 (tested (goal.at.returns-then-not-has_sheet c).After-has_sheet ∙ c.if-not-has_sheet.true))

pub returns-then-input-input_bytes : goal.returns-then-input-input_bytes
returns-then-input-input_bytes c =
    sym (input_length c.args.input.now accepted c.requires.0 (tested (goal.at.returns-then-input-input_bytes c).After-has_sheet ∙ c.if-not-has_sheet.false)
    (λ e. c.if-input-input_bytes.true (e ∙ sym (long (goal.at.returns-then-input-input_bytes c).After-input_bytes))))

pub returns : goal.returns
returns c =
    sym (input_passed c.args.input.now accepted c.requires.0 (tested (goal.at.returns c).After-has_sheet ∙ c.if-not-has_sheet.false)
    (c.if-input-input_bytes.false ∙ long (goal.at.returns c).After-input_bytes))
