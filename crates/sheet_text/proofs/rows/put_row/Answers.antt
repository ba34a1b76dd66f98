-- `sheet_text::rows::put_row` meets its contract: four numbers, one after the other.
-- Assumes nothing.
use mathlib.Core.List.{◌++◌}
use lib.ListN.{length}
use Rattle.sheet_text.specs.Decimal.{decimal, signed}
use Rattle.sheet_text.specs.Text as text
use Rattle.sheet_text.specs.Text.{space, newline}
use Rattle.maths.proofs.SignedWord.{number_kept}
use Rattle.sheet_text.proofs.WrittenLaws.{appended, room_front, room_next}
use Rattle.sheet_text.proofs.rows.put_row.Goals as goal

pub push_number-requires : goal.push_number-requires
unfolding text.row
push_number-requires c =
    let a = decimal c.args.place ++ space in
    let b = signed c.args.noise ++ space in
    let d = decimal c.args.sent ++ space in
    let e = decimal c.args.read ++ newline in
    room_front (length c.args.text.now) a b (room_front (length c.args.text.now) (a ++ b) d (room_front (length c.args.text.now) (a ++ b ++ d) e c.requires.1))

pub push_signed-requires : goal.push_signed-requires
unfolding text.row
push_signed-requires c =
    let a = decimal c.args.place ++ space in
    let b = signed c.args.noise ++ space in
    let d = decimal c.args.sent ++ space in
    let e = decimal c.args.read ++ newline in
    rw (number_kept c.args.noise c.ranges.noise) (
      c.requires.0,
      room_next c.push_number.ensures b
          (room_front (length c.args.text.now) (a ++ b) d (room_front (length c.args.text.now) (a ++ b ++ d) e c.requires.1)),
    )

pub push_number-requires-2 : goal.push_number-requires-2
unfolding text.row
push_number-requires-2 c =
    let a = decimal c.args.place ++ space in
    let b = signed c.args.noise ++ space in
    let d = decimal c.args.sent ++ space in
    let e = decimal c.args.read ++ newline in
    room_next (appended c.push_number.ensures
    (rw (number_kept c.args.noise c.ranges.noise) at c.push_signed.ensures)) d
    (room_front (length c.args.text.now) (a ++ b ++ d) e c.requires.1)

pub push_number-requires-3 : goal.push_number-requires-3
unfolding text.row
push_number-requires-3 c =
    room_next (appended
    (appended c.push_number.ensures
    (rw (number_kept c.args.noise c.ranges.noise) at c.push_signed.ensures)) c.push_number-2.ensures)
    (decimal c.args.read ++ newline) c.requires.1

pub returns : goal.returns
unfolding text.row
returns c =
    appended (appended
    (appended c.push_number.ensures
    (rw (number_kept c.args.noise c.ranges.noise) at c.push_signed.ensures))
    c.push_number-2.ensures) c.push_number-3.ensures
