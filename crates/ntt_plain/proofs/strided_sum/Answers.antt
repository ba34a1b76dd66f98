-- `ntt_plain::strided_sum` meets its contract: after j turns the total is the sum of the first j products.
-- Assumes nothing.
use mathlib.Core.Path.{◌≡◌}
use Prim.Native.Nat.{◌<◌}
use native.Mathlib.Omega.{arith}
use lib.ListN.{length}
use Rattle.ntt_plain.proofs.Sums.{summing_none, summing_more, term_below}
use Rattle.ntt_plain.proofs.strided_sum.Goals.{In-loop}
use Rattle.ntt_plain.proofs.strided_sum.Goals as goal

pub loop-init : goal.loop-init
loop-init c = summing_none c.requires

-- the place of a turn
place_below : (c : In-loop)
    → c.loop.place < length c.args.x.now
place_below c =
    let turn = c.loop in
    rw turn.invariant.next (c.requires.places turn.counter c.loop-test.true)

pub offset_bounds-x-place : goal.offset_bounds-x-place
offset_bounds-x-place c = omega (arith, place_below c, c.requires.room)

pub bounds-x-place : goal.bounds-x-place
bounds-x-place c = place_below (goal.at.bounds-x-place c).In-loop

pub overflow_add-total : goal.overflow_add-total
overflow_add-total c =
    let turn = c.loop in
    let small = rw (← turn.invariant.next) at (term_below c.requires turn.counter turn.power c.loop-test.true
    turn.invariant.power_below) in
    omega (arith, c.product-total.ensures, small, c.requires.few, turn.invariant.room)

pub overflow_add-place : goal.overflow_add-place
overflow_add-place c =
    let turn = c.loop in
    omega (arith, c.requires.places turn.counter c.loop-test.true, turn.invariant.next, c.requires.room, c.requires.short)

pub loop-preserved : goal.loop-preserved
loop-preserved c =
    let turn = c.loop in
    summing_more c.requires c.product-total.result c.advance-power.result turn.invariant c.loop-test.true
    c.product-total.ensures c.advance-power.ensures.0

pub returns : goal.returns
returns c =
    let turn = c.loop in
    let done : turn.counter ≡ c.args.count = omega (arith, turn.invariant.within, c.loop-test.false) in
    rw (← done) turn.invariant.sum_so_far
