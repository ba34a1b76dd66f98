-- The arrays have room for the rows of every set.
-- Assumes nothing.
use Prim.Native.Nat.{◌≤◌}
use native.Mathlib.Omega.{arith}
use lib.IntN.{pos}
use lib.ListN.{replicate, length-replicate}
use Rattle.sets.proofs.Rules.{rules_of}
use Rattle.calls.proofs.Parts.{array_front, front_length}
use Rattle.sheet_rows.proofs.Sets.{sheet_set}
use Rattle.sheet.proofs.text.write_checked.Goals.{After-slice_known-2-1}
use Rattle.sheet.proofs.text.write_checked.Goals as goal

-- the number of rows
fits : (c : After-slice_known-2-1) → c.args.p.d ≤ 256
fits c = (rules_of c.args.set (sheet_set c.args.set c.requires.0) _ c.requires.4).most_d

pub slice_bounds-noise-end : goal.slice_bounds-noise-end
slice_bounds-noise-end c = omega (arith, fits c)

pub slice_bounds-sent-end : goal.slice_bounds-sent-end
slice_bounds-sent-end c = omega (arith, fits (goal.at.slice_bounds-sent-end c).After-slice_known-2-1)

pub slice_bounds-read-end : goal.slice_bounds-read-end
slice_bounds-read-end c = omega (arith, fits (goal.at.slice_bounds-read-end c).After-slice_known-2-1)

pub write_rows-requires : goal.write_rows-requires
write_rows-requires c =
    let pre = c.requires in
    let d = c.args.p.d in
    let noise = front_length (replicate 256 (pos 0)) d (rw length-replicate (fits (goal.at.write_rows-requires c).After-slice_known-2-1)) in
    let bits = array_front 256 d (fits (goal.at.write_rows-requires c).After-slice_known-2-1) in
    (pre.0, pre.1, noise, bits, bits, pre.2, pre.3, pre.4)
