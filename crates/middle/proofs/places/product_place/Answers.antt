-- `middle::places::product_place` meets its contract: the loop adds the terms that count, and the whole sum is reduced.
-- Assumes nothing.
use mathlib.Core.Path.{◌∙◌}
use Prim.Native.Nat.{◌-◌, ◌^◌, ◌<◌}
use native.Mathlib.Omega.{arith}
use Rattle.middle.proofs.PlaceSum.{part_none, part_more, part_all, small_product}
use Rattle.middle.proofs.places.product_place.Goals.{After-product-sum}
use Rattle.middle.proofs.places.product_place.Goals as goal

pub loop-j-init : goal.loop-j-init
loop-j-init c = part_none _ c.first_meeting-begin.ensures

-- the term of a turn is small
term_small : (c : After-product-sum) → c.product-sum.result < 2 ^ 48
term_small c =
    let j = c.loop-j.j in
    let inv = c.loop-j.invariant in
    rw c.product-sum.ensures (small_product (c.requires.0.small j (omega arith)) (c.requires.1.small (c.args.p - j) (omega (arith, inv.meets))))

pub overflow_add-sum : goal.overflow_add-sum
overflow_add-sum c = omega (arith, term_small c)

pub loop-j-preserved : goal.loop-j-preserved
loop-j-preserved c =
    let inv = c.loop-j.invariant in
    part_more inv (omega arith) c.product-sum.ensures (term_small c)

pub returns : goal.returns
returns c =
    c.reduce.ensures ∙ rw (part_all c.loop-j.invariant c.end_meeting-end.ensures (omega arith))
