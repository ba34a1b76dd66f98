-- `ntt_products::accumulate` meets its contract: after j turns the first j products are added, and the other numbers are as they were.
-- Assumes nothing.
use mathlib.Core.Path.{refl, sym, ◌∙◌}
use Prim.Native.Nat.{◌<◌}
use native.Mathlib.Nat.{zero-add, mod-lt}
use native.Mathlib.Omega.{arith}
use lib.ListN.{length}
use Rattle.maths.specs.Vector.{at}
use Rattle.calls.proofs.Filled.{filled_none, filled_more, filled_whole, ahead}
use Rattle.ntt_products.proofs.Pointwise.{accumulated_length, accumulated_scaled}
use Rattle.ntt_products.proofs.accumulate.Goals.{In-loop-j}
use Rattle.ntt_products.proofs.accumulate.Goals as goal

-- the place of a turn is one of the total, and of x
turn_below : (c : In-loop-j) → c.loop-j.j < length c.args.total.now
turn_below c = omega (arith, c.loop-j.invariant.kept_length, c.loop-j-test.true)

turn_inside : (c : In-loop-j) → c.loop-j.j < length c.args.x.now
turn_inside c = omega (arith, turn_below c, c.requires.0)

pub loop-j-init : goal.loop-j-init
loop-j-init c = filled_none (accumulated_length _ _ _ _) (omega arith)

pub settle_number-product-requires : goal.settle_number-product-requires
settle_number-product-requires c =
    c.requires.3.each c.loop-j.j (turn_below (goal.at.settle_number-product-requires c).In-loop-j)

pub add-requires : goal.add-requires
add-requires c =
    let pre = c.requires in
    let residue : at c.args.total.now c.loop-j.j < c.args.reducer.q = pre.2.each c.loop-j.j (turn_below (goal.at.add-requires c).In-loop-j) in
    let modulus = c.args.reducer.modulus.modulus in
    (rw (ahead c.loop-j.invariant) residue, rw c.settle_number-product.ensures (mod-lt _ (omega (arith, modulus.some))), modulus.small)

pub loop-j-preserved : goal.loop-j-preserved
loop-j-preserved c =
    let args = c.args in
    let this = c.loop-j in
    filled_more 0 this.invariant (turn_below (goal.at.loop-j-preserved c).In-loop-j) (sym (zero-add this.j))
    (c.add.ensures
    ∙ rw (ahead this.invariant, c.settle_number-product.ensures)
    (sym (accumulated_scaled args.reducer.q args.total.now args.x.now args.y.now this.j (turn_below (goal.at.loop-j-preserved c).In-loop-j)
    (turn_inside (goal.at.loop-j-preserved c).In-loop-j))))

pub returns : goal.returns
returns c = filled_whole c.loop-j.invariant refl (omega (arith, c.loop-j-test.false, c.loop-j.invariant.kept_length))
