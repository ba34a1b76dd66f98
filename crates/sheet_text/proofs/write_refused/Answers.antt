-- `sheet_text::write_refused` meets its contract: the word and two numbers, which fit.
-- Assumes nothing.
use mathlib.Core.Path.{◌≡◌, ap, ◌∙◌}
use mathlib.Core.List.{◌++◌}
use native.Mathlib.Omega.{arith}
use lib.ListN.{length}
use Rattle.calls.specs.Region.{over}
use Rattle.sheet_text.specs.Decimal.{decimal}
use Rattle.sheet_text.specs.Text as text
use Rattle.sheet_text.specs.Text.{space, newline, refused_word}
use Rattle.sheet_text.proofs.WrittenLaws.{appended, from_empty, room_front, room_next}
use Rattle.sheet_text.proofs.TextLaws.{refused_length}
use Rattle.sheet_text.proofs.write_refused.Goals as goal

pub push_number-requires : goal.push_number-requires
unfolding text.refused_text text.refused_word
push_number-requires c =
    let fits = refused_length c.args.number c.args.place c.ranges.number.fits c.ranges.place.fits in
    let a = decimal c.args.number ++ space in
    let end = decimal c.args.place ++ newline in
    room_next c.push_bytes.ensures a (room_front (length c.new-text.result) (refused_word ++ a) end (omega (arith, ap length c.new-text.ensures)))

pub push_number-requires-2 : goal.push_number-requires-2
unfolding text.refused_text text.refused_word
push_number-requires-2 c =
    let fits = refused_length c.args.number c.args.place c.ranges.number.fits c.ranges.place.fits in
    room_next (appended c.push_bytes.ensures c.push_number.ensures) (decimal c.args.place ++ newline)
    (omega (arith, ap length c.new-text.ensures))

pub returns : goal.returns
unfolding text.refused_text text.refused_word
returns c =
    let all = appended (appended c.push_bytes.ensures c.push_number.ensures) c.push_number-2.ensures in
    let whole : c.push_number-2.new.self ≡ text.refused_text c.args.number c.args.place = from_empty c.new-text.ensures all in
    let fits = refused_length c.args.number c.args.place c.ranges.number.fits c.ranges.place.fits in
    record {
      value = c.write.ensures.value ∙ ap length whole;
      out_after = c.write.ensures.out_after ∙ ap (over c.args.out.now 0) whole;
      upper_bound = omega (arith, c.write.ensures.value, ap length whole);
    }
