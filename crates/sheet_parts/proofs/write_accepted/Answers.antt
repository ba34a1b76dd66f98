-- Ceiling and half modulus are those of the set.
-- Assumes nothing.
use mathlib.Core.Path.{ap₂}
use Prim.Native.Nat.{ℕ}
use Rattle.sheet_text.specs.Text.{sheet_text}
use Rattle.sheet_parts.proofs.Laws.{printed_as}
use Rattle.sheet_parts.proofs.write_accepted.Goals as goal

pub returns : goal.returns
returns c =
    let args = c.args in
    let made = c.write_sheet.ensures in
    printed_as (ap₂ (λ (most half : ℕ). sheet_text args.noise.now args.sent.now args.read.now most half)
    c.ceiling-most.ensures c.half_modulus-half.ensures)
    (record { count_is = made.value; short = made.upper_bound; text_is = made.out_after })
