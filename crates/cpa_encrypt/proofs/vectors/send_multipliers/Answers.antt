-- The polynomial stands among all multipliers; it is copied to the front of the slice and sent in scaled form.
-- Assumes nothing.
use native.Mathlib.Omega.{arith}
use lib.ListN.{length-take, length-drop}
use Rattle.sets.specs.Derived.{multiplier_count_of}
use Rattle.cpa_encrypt.proofs.Multiplied.{Room, vector_room, multiplier_fits, multipliers_placed, multipliers_front}
use Rattle.cpa_encrypt.proofs.vectors.send_multipliers.Goals.{Start}
use Rattle.cpa_encrypt.proofs.vectors.send_multipliers.Goals as goal

-- where the polynomial stands
room : (c : Start) → Room c.args.p c.args.i (multiplier_count_of c.args.p)
room c = vector_room c.args.p c.requires.0 c.args.i c.requires.3

pub overflow_add-n : goal.overflow_add-n
overflow_add-n c = omega (arith, (room (goal.at.overflow_add-n c).Start).short)

pub overflow_mul-from : goal.overflow_mul-from
overflow_mul-from c = omega (arith, (room (goal.at.overflow_mul-from c).Start).within, (room (goal.at.overflow_mul-from c).Start).few)

pub overflow_add-end : goal.overflow_add-end
overflow_add-end c = omega (arith, (room (goal.at.overflow_add-end c).Start).within, (room (goal.at.overflow_add-end c).Start).few)

pub offset_bounds-multipliers-from : goal.offset_bounds-multipliers-from
offset_bounds-multipliers-from c =
    omega (arith, (room (goal.at.offset_bounds-multipliers-from c).Start).within, (room (goal.at.offset_bounds-multipliers-from c).Start).few)

pub slice_bounds-copy_in-end : goal.slice_bounds-copy_in-end
slice_bounds-copy_in-end c = omega (arith, (room (goal.at.slice_bounds-copy_in-end c).Start).within, c.requires.2.size)

pub copy_in-requires : goal.copy_in-requires
copy_in-requires c =
    let fits = multiplier_fits c.args.p c.requires.0 c.args.number in
    simp (length-take, length-drop) (omega (arith, (room (goal.at.copy_in-requires c).Start).within, c.requires.2.size, c.requires.4, fits))

pub send_first_scaled-requires : goal.send_first_scaled-requires
send_first_scaled-requires c =
    let pre = c.requires in (
      pre.0,
      pre.1,
      rw c.copy_in.ensures
          (multipliers_placed c.args.p pre.0 c.args.number c.args.i c.args.x.now c.args.multipliers.now pre.4
          pre.2 pre.3),
    )

pub returns : goal.returns
returns c =
    let pre = c.requires in
    rw (
      c.copy_in.ensures,
      multipliers_front c.args.p pre.0 c.args.number c.args.i c.args.x.now c.args.multipliers.now pre.4 pre.2
          pre.3,
    ) at c.send_first_scaled.ensures
