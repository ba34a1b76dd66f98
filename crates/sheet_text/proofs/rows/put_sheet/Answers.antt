-- `sheet_text::rows::put_sheet` meets its contract: the header, the rows of the places shown, the last line.
-- Assumes nothing.
use mathlib.Core.Path.{◌≡◌}
use mathlib.Core.List.{◌++◌}
use Prim.Native.Nat.{◌-◌}
use native.Mathlib.Nat.{sub-zero}
use lib.ListN.{length, take}
use Rattle.sheet_order.specs.Order.{shown}
use Rattle.sheet_text.specs.Text as text
use Rattle.sheet_text.specs.Text.{header, rows, last_line}
use Rattle.sheet_order.proofs.Laws.{shown_below, shown_front}
use Rattle.sheet_text.proofs.WrittenLaws.{appended, room_front, room_next}
use Rattle.sheet_text.proofs.rows.put_sheet.Goals as goal

pub push_bytes-requires : goal.push_bytes-requires
unfolding text.sheet_text text.header
push_bytes-requires c =
    let noise = c.args.noise.now in
    let body = rows noise c.args.sent.now c.args.read.now (shown noise) in
    let end = last_line c.args.ceiling c.args.half in
    room_front (length c.args.text.now) header body (room_front (length c.args.text.now) (header ++ body) end c.requires.2)

pub put_rows-requires : goal.put_rows-requires
unfolding text.sheet_text text.header
put_rows-requires c =
    let noise = c.args.noise.now in
    let body = rows noise c.args.sent.now c.args.read.now (shown noise) in
    let end = last_line c.args.ceiling c.args.half in
    let ten = c.shown_count-count in
    let placed = c.order_places in
    let front : take (ten.result - 0) placed.new.order ≡ shown noise = rw sub-zero
    (shown_front noise placed.new.order ten.result placed.ensures ten.ensures) in
    rw front (
      c.requires.0,
      shown_below noise,
      room_next c.push_bytes.ensures body
          (room_front (length c.args.text.now) (header ++ body) end c.requires.2),
    )

pub put_last_line-requires : goal.put_last_line-requires
unfolding text.sheet_text text.header
put_last_line-requires c =
    let noise = c.args.noise.now in
    let body = rows noise c.args.sent.now c.args.read.now (shown noise) in
    let end = last_line c.args.ceiling c.args.half in
    let ten = c.shown_count-count in
    let placed = c.order_places in
    let front : take (ten.result - 0) placed.new.order ≡ shown noise = rw sub-zero
    (shown_front noise placed.new.order ten.result placed.ensures ten.ensures) in
    room_next (appended {two = body} c.push_bytes.ensures (rw front at c.put_rows.ensures)) end
    c.requires.2

pub returns : goal.returns
unfolding text.sheet_text text.header
returns c =
    let noise = c.args.noise.now in
    let body = rows noise c.args.sent.now c.args.read.now (shown noise) in
    let ten = c.shown_count-count in
    let placed = c.order_places in
    let front : take (ten.result - 0) placed.new.order ≡ shown noise = rw sub-zero
    (shown_front noise placed.new.order ten.result placed.ensures ten.ensures) in
    appended (appended {two = body} c.push_bytes.ensures
    (rw front at c.put_rows.ensures)) c.put_last_line.ensures
