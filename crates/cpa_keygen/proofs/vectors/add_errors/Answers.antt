-- After j turns the first j sums are written, and the other numbers are as they were.
-- Assumes nothing.
use mathlib.Core.Path.{sym, ◌∙◌}
use Prim.Native.Nat.{◌<◌}
use native.Mathlib.Nat.{zero-add}
use native.Mathlib.Omega.{arith}
use lib.ListN.{length}
use Rattle.maths.specs.Vector.{at}
use Rattle.calls.proofs.Filled.{filled_none, filled_more, filled_all, ahead}
use Rattle.cpa_keygen.proofs.Sums.{sums_length, sums_at}
use Rattle.cpa_keygen.proofs.vectors.add_errors.Goals as goal

pub loop-j-init : goal.loop-j-init
loop-j-init c = filled_none (sums_length _ _ _) (omega arith)

pub add-requires : goal.add-requires
add-requires c =
    let turn = c.loop-j in
    let below : turn.j < length c.args.errors.now = omega arith in
    let residue : at c.args.x.now turn.j < c.args.q = c.requires.1.each turn.j below in
    (rw (ahead turn.invariant) residue, c.requires.2.each turn.j below, c.requires.3)

pub loop-j-preserved : goal.loop-j-preserved
loop-j-preserved c =
    let turn = c.loop-j in
    let below : turn.j < length c.args.errors.now = omega arith in
    filled_more 0 turn.invariant below (sym (zero-add turn.j))
    (c.add.ensures ∙ rw (ahead turn.invariant) (sym (sums_at c.args.q c.args.x.now c.args.errors.now turn.j below)))

pub returns : goal.returns
returns c = filled_all c.loop-j.invariant (omega arith)
