-- `sheet::sheet` meets its contract: the sheet is written where both slices lent fit, and the work slice is cleared after it.
-- Assumes nothing.
use mathlib.Core.Path.{ap, ◌∙◌}
use Prim.Native.Nat.{ℕ}
use lib.ListN.{length, replicate}
use Rattle.sheet.proofs.SheetLaws.{text_short, work_other, both_fit, work_is, nothing_written, sheet_written}
use Rattle.sheet.proofs.sheet.Goals as goal

pub returns-then-text-lt1024 : goal.returns-then-text-lt1024
returns-then-text-lt1024 c =
    let args = c.args in
    let bytes = c.shared_slice_known-1.given in let whole = nothing_written args.input.now args.text.now args.work.now (λ k. (bytes k).fits)
    (text_short (length args.text.now) (length args.work.now) c.if-text-lt1024.true) in
    record { count = whole.0; short = whole.1.0; printed = whole.1.1.0; cleared = whole.1.1.1.0; claim = whole.1.1.1.1.0; ceiling = whole.1.1.1.1.1 }

pub returns-then-work-ne22521 : goal.returns-then-work-ne22521
returns-then-work-ne22521 c =
    let args = c.args in
    let bytes = c.shared_slice_known-1.given in let whole = nothing_written args.input.now args.text.now args.work.now (λ k. (bytes k).fits)
    (work_other (length args.text.now) (length args.work.now) c.if-text-lt1024.false c.if-work-ne22521.true) in
    record { count = whole.0; short = whole.1.0; printed = whole.1.1.0; cleared = whole.1.1.1.0; claim = whole.1.1.1.1.0; ceiling = whole.1.1.1.1.1 }

pub write-count-requires : goal.write-count-requires
write-count-requires c = (c.if-text-lt1024.false, work_is c.if-work-ne22521.false)

pub returns : goal.returns
returns c =
    let args = c.args in
    let bytes = c.shared_slice_known-1.given in
    let made = c.write-count in let whole = sheet_written args.input.now args.text.now args.work.now (λ k. (bytes k).fits)
    (both_fit (length args.text.now) (length args.work.now) c.if-text-lt1024.false
    c.if-work-ne22521.false) made.ensures (c.clear.ensures ∙ ap (λ (n : ℕ). replicate n 0) made.auto.work) in record {
      count = whole.0;
      short = whole.1.0;
      printed = whole.1.1.0;
      cleared = whole.1.1.1.0;
      claim = whole.1.1.1.1.0;
      ceiling = whole.1.1.1.1.1;
    }
