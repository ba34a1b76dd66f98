-- `sheet_text::rows::put_last_line` meets its contract: two words, each with its number.
-- Assumes nothing.
use mathlib.Core.List.{◌++◌}
use lib.ListN.{length}
use Rattle.sheet_text.specs.Decimal.{decimal}
use Rattle.sheet_text.specs.Text as text
use Rattle.sheet_text.specs.Text.{newline, ceiling_word, half_word}
use Rattle.sheet_text.proofs.WrittenLaws.{appended, room_front, room_next}
use Rattle.sheet_text.proofs.rows.put_last_line.Goals as goal

pub push_bytes-requires : goal.push_bytes-requires
unfolding text.last_line text.ceiling_word
push_bytes-requires c =
    let b = decimal c.args.ceiling in
    let e = decimal c.args.half ++ newline in
    room_front (length c.args.text.now) ceiling_word b
    (room_front (length c.args.text.now) (ceiling_word ++ b) half_word (room_front (length c.args.text.now) (ceiling_word ++ b ++ half_word) e c.requires))

pub push_decimal-requires : goal.push_decimal-requires
unfolding text.last_line text.ceiling_word
push_decimal-requires c =
    let b = decimal c.args.ceiling in
    let e = decimal c.args.half ++ newline in
    room_next c.push_bytes.ensures b
    (room_front (length c.args.text.now) (ceiling_word ++ b) half_word (room_front (length c.args.text.now) (ceiling_word ++ b ++ half_word) e c.requires))

pub push_bytes-requires-2 : goal.push_bytes-requires-2
unfolding text.last_line text.ceiling_word text.half_word
push_bytes-requires-2 c =
    let b = decimal c.args.ceiling in
    let e = decimal c.args.half ++ newline in
    room_next (appended c.push_bytes.ensures c.push_decimal.ensures) half_word
    (room_front (length c.args.text.now) (ceiling_word ++ b ++ half_word) e c.requires)

pub push_number-requires : goal.push_number-requires
unfolding text.last_line text.ceiling_word text.half_word
push_number-requires c =
    room_next (appended (appended c.push_bytes.ensures c.push_decimal.ensures)
    c.push_bytes-2.ensures)
    (decimal c.args.half ++ newline) c.requires

pub returns : goal.returns
unfolding text.last_line text.ceiling_word text.half_word
returns c =
    appended (appended
    (appended c.push_bytes.ensures
    c.push_decimal.ensures) c.push_bytes-2.ensures)
    c.push_number.ensures
