-- `sheet_text::write_sheet` meets its contract: the longest sheet fits.
-- Assumes nothing.
use mathlib.Core.Path.{ap, ◌∙◌}
use native.Mathlib.Omega.{arith}
use lib.ListN.{length}
use Rattle.calls.specs.Region.{over}
use Rattle.sheet_text.proofs.WrittenLaws.{from_empty}
use Rattle.sheet_text.proofs.TextLaws.{sheet_length}
use Rattle.sheet_text.proofs.write_sheet.Goals as goal

pub put_sheet-requires : goal.put_sheet-requires
put_sheet-requires c =
    let fits = sheet_length c.args.noise.now c.args.sent.now c.args.read.now c.requires.0.sizes
    (λ k. (c.shared_slice_known-1.given k).fits) (λ k. (c.shared_slice_known-2-1.given k).fits)
    c.args.ceiling c.args.half c.requires.1 c.ranges.ceiling.fits c.ranges.half.fits in
    (c.requires.0, omega (arith, c.requires.1), omega (arith, ap length c.new-text.ensures))

pub returns : goal.returns
returns c =
    let fits = sheet_length c.args.noise.now c.args.sent.now c.args.read.now c.requires.0.sizes
    (λ k. (c.shared_slice_known-1.given k).fits) (λ k. (c.shared_slice_known-2-1.given k).fits)
    c.args.ceiling c.args.half c.requires.1 c.ranges.ceiling.fits c.ranges.half.fits in
    let whole = from_empty c.new-text.ensures c.put_sheet.ensures in
    record {
      value = c.write.ensures.value ∙ ap length whole;
      out_after = c.write.ensures.out_after ∙ ap (over c.args.out.now 0) whole;
      upper_bound = omega (arith, c.write.ensures.value, ap length whole);
    }
