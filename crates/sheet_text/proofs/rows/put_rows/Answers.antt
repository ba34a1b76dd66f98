-- `sheet_text::rows::put_rows` meets its contract: each turn appends one row.
-- Assumes nothing.
use mathlib.Core.Path.{sym}
use Prim.Native.Nat.{◌+◌}
use native.Mathlib.Omega.{arith}
use lib.IntN.{pos}
use lib.ListN.{get_or}
use lib.Seq.{take_all}
use Rattle.sheet_order.specs.Order as order
use Rattle.maths.proofs.SignedWord.{entry_kept}
use Rattle.sheet_text.proofs.WrittenLaws.{appended_none, appended, appended_as, room_next}
use Rattle.sheet_text.proofs.TextLaws.{row_of, rows_none, rows_more, rows_front}
use Rattle.sheet_text.proofs.rows.put_rows.Goals as goal

pub loop-place-init : goal.loop-place-init
loop-place-init c =
    appended_as (sym (rows_none c.args.noise.now c.args.sent.now c.args.read.now c.args.places.now)) (appended_none c.args.text.now)

pub offset_bounds-noise-place : goal.offset_bounds-noise-place
offset_bounds-noise-place c =
    omega (arith, c.requires.1.below c.loop-place.place-index (omega arith))

pub bounds-noise-place : goal.bounds-noise-place
bounds-noise-place c =
    c.requires.1.below c.loop-place.place-index (omega arith)

pub offset_bounds-sent-place : goal.offset_bounds-sent-place
offset_bounds-sent-place c =
    omega (arith, c.requires.1.below c.loop-place.place-index (omega arith), c.requires.0.sent_length)

pub bounds-sent-place : goal.bounds-sent-place
bounds-sent-place c =
    omega (arith, c.requires.1.below c.loop-place.place-index (omega arith), c.requires.0.sent_length)

pub offset_bounds-read-place : goal.offset_bounds-read-place
offset_bounds-read-place c =
    omega (arith, c.requires.1.below c.loop-place.place-index (omega arith), c.requires.0.read_length)

pub bounds-read-place : goal.bounds-read-place
bounds-read-place c =
    omega (
      arith,
      c.requires.1.below c.loop-place.place-index (omega arith),
      c.requires.0.read_length,
    )

pub put_row-requires : goal.put_row-requires
unfolding order.size_at
put_row-requires c =
    let noise = c.args.noise.now in
    let sent = c.args.sent.now in
    let read = c.args.read.now in
    let places = c.args.places.now in
    let i = c.loop-place.place-index in
    let place = get_or places i 0 in
    let more = rows_more noise sent read places i (omega arith) in
    rw (entry_kept (get_or noise place (pos 0)) c.put_row-arg-1.given) (
      c.requires.0.sizes.small place,
      room_next c.loop-place.invariant (row_of noise sent read place)
          (rw (← more) (omega (arith, rows_front noise sent read places (i + 1), c.requires.2))),
    )

pub loop-place-preserved : goal.loop-place-preserved
loop-place-preserved c =
    let noise = c.args.noise.now in
    let sent = c.args.sent.now in
    let read = c.args.read.now in
    let places = c.args.places.now in
    let i = c.loop-place.place-index in
    let more = rows_more noise sent read places i (omega arith) in
    appended_as (sym more)
    (appended c.loop-place.invariant
    (rw (entry_kept (get_or noise (get_or places i 0) (pos 0)) c.put_row-arg-1.given) at
    c.put_row.ensures))

pub returns : goal.returns
returns c =
    rw (take_all c.loop-place.place-index c.args.places.now (omega arith)) at c.loop-place.invariant
