-- The places of stored vector i take the front of `x`, which is sent there.
-- Assumes nothing.
use mathlib.Core.Path.{◌∙◌}
use Prim.Native.Nat.{◌+◌, ◌≤◌}
use native.Mathlib.Omega.{arith}
use lib.ListN.{length}
use Rattle.sets.proofs.Rules.{listed_rules}
use Rattle.sets.proofs.Transforms.{first_size, third_size}
use Rattle.cpa_keygen.proofs.Room.{vector_short, vector_room}
use Rattle.calls.proofs.Parts.{front_length}
use Rattle.cpa_keygen.proofs.KeyVectors.{copied_placed, copied_stored}
use Rattle.cpa_keygen.proofs.vectors.store_vector.Goals as goal

pub overflow_add-end : goal.overflow_add-end
overflow_add-end c =
    let p = c.args.p in
    omega (
      arith,
      c.vector_start-start.ensures,
      c.transform_size-size.ensures,
      first_size p,
      vector_short p c.requires.0 c.requires.1 c.args.i c.requires.2,
    )

pub slice_bounds-copy_in-end : goal.slice_bounds-copy_in-end
slice_bounds-copy_in-end c =
    let p = c.args.p in
    let kept = listed_rules p c.requires.1 in
    omega (arith, c.transform_size-size.ensures, first_size p, third_size p, kept.rising1, kept.rising2, c.requires.4)

pub copy_in-requires : goal.copy_in-requires
copy_in-requires c =
    let p = c.args.p in
    let kept = listed_rules p c.requires.1 in
    let size = c.transform_size-size in
    let front =
    front_length c.args.x.now size.result
    (omega (arith, size.ensures, first_size p, third_size p, kept.rising1, kept.rising2, c.requires.4)) in
    rw front (omega (
      arith,
      c.vector_start-start.ensures,
      size.ensures,
      first_size p,
      c.requires.6,
      vector_room p c.requires.0 c.requires.1 c.args.i c.requires.2,
    ))

pub offset_bounds-work-start : goal.offset_bounds-work-start
offset_bounds-work-start c =
    omega (arith, c.vector_start-start.ensures, vector_short c.args.p c.requires.0 c.requires.1 c.args.i c.requires.2)

pub slice_bounds-send_first-end : goal.slice_bounds-send_first-end
slice_bounds-send_first-end c =
    let p = c.args.p in
    omega (
      arith,
      c.vector_start-start.ensures,
      c.transform_size-size.ensures,
      first_size p,
      c.copy_in.auto.dst,
      c.requires.6,
      vector_room p c.requires.0 c.requires.1 c.args.i c.requires.2,
    )

pub send_first-requires : goal.send_first-requires
send_first-requires c =
    let p = c.args.p in
    let pre = c.requires in
    let room : c.vector_start-start.result + p.d1 ≤ length c.args.work.now =
    omega (arith, c.vector_start-start.ensures, pre.6, vector_room p pre.0 pre.1 c.args.i pre.2) in (
      pre.1,
      pre.3.lent,
      copied_placed p pre.1 c.args.x.now c.args.work.now c.copy_in.new.dst c.vector_start-start.result
          c.transform_size-size.result c.vector_length-n.result (c.transform_size-size.ensures ∙ first_size p)
          c.vector_length-n.ensures room pre.4 pre.5 c.copy_in.ensures,
    )

pub returns : goal.returns
returns c =
    let p = c.args.p in
    let pre = c.requires in
    let room : c.vector_start-start.result + p.d1 ≤ length c.args.work.now =
    omega (arith, c.vector_start-start.ensures, pre.6, vector_room p pre.0 pre.1 c.args.i pre.2) in
    copied_stored p pre.1 c.args.x.now c.args.work.now c.copy_in.new.dst c.vector_start-start.result
    c.transform_size-size.result c.vector_length-n.result (c.transform_size-size.ensures ∙ first_size p)
    c.vector_length-n.ensures room pre.4 pre.5 c.copy_in.ensures _ (c.send_first.ensures.inverse pre.3)
    ∙ rw c.vector_start-start.ensures
