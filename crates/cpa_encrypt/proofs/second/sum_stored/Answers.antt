-- After i turns the products of the first i polynomials are added up.
-- Assumes nothing.
use mathlib.Core.Path.{◌≡◌, refl}
use Prim.Native.Nat.{◌+◌, ◌-◌, ◌*◌, ◌<◌}
use native.Mathlib.Omega.{arith}
use lib.ListN.{take, drop}
use Rattle.calls.specs.Region.{vector}
use Rattle.calls.proofs.Region.{region_part}
use Rattle.sets.proofs.Rules.{listed_rules}
use Rattle.ntt_products.proofs.Laws.{rules_odd}
use Rattle.cpa_encrypt.proofs.Correlating.{KeyRoom, key_room, correlating_none}
use Rattle.cpa_encrypt.proofs.Correlating.{correlating_more, correlating_addends, correlating_all}
use Rattle.cpa_encrypt.proofs.second.sum_stored.Goals.{In-loop-i}
use Rattle.cpa_encrypt.proofs.second.sum_stored.Goals as goal

pub new-reducer-requires : goal.new-reducer-requires
new-reducer-requires c = rules_odd c.args.p (listed_rules c.args.p c.requires.0)

pub loop-i-init : goal.loop-i-init
loop-i-init c = correlating_none c.args.p c.requires.0 _ _ _ _ c.requires.4 c.requires.5

-- a turn is one of t
turn_below : (c : In-loop-i) → c.loop-i.i < c.args.p.t
turn_below c = omega arith

-- its b̂_i lies within all of them
turn_room : (c : In-loop-i) → let p = c.args.p in KeyRoom p c.loop-i.i (p.d1 * p.t)
turn_room c = key_room c.args.p c.requires.0 c.loop-i.i (turn_below c)

-- and is the part that is lent
turn_part : (c : In-loop-i) → let d1 = c.args.p.d1 in
    let i = c.loop-i.i in
    let numbers = c.args.numbers.now in
    take (d1 * i + d1 - d1 * i) (drop (d1 * i) numbers) ≡ vector d1 numbers i
turn_part c =
    let d1 = c.args.p.d1 in
    let i = c.loop-i.i in
    region_part c.args.numbers.now (d1 * i) d1 (d1 * i + d1) refl

pub send_multipliers-requires : goal.send_multipliers-requires
send_multipliers-requires c =
    let pre = c.requires in (pre.0, pre.3, pre.2, turn_below (goal.at.send_multipliers-requires c).In-loop-i, c.loop-i.invariant.x_size)

pub overflow_mul-from : goal.overflow_mul-from
overflow_mul-from c =
    omega (arith, (turn_room (goal.at.overflow_mul-from c).In-loop-i).within, (turn_room (goal.at.overflow_mul-from c).In-loop-i).few, c.requires.1.size)

pub overflow_add-end : goal.overflow_add-end
overflow_add-end c =
    omega (arith, (turn_room (goal.at.overflow_add-end c).In-loop-i).within, (turn_room (goal.at.overflow_add-end c).In-loop-i).few, c.requires.1.size)

pub offset_bounds-numbers-from : goal.offset_bounds-numbers-from
offset_bounds-numbers-from c =
    omega (
      arith,
      (turn_room (goal.at.offset_bounds-numbers-from c).In-loop-i).within,
      (turn_room (goal.at.offset_bounds-numbers-from c).In-loop-i).few,
      c.requires.1.size,
    )

pub slice_bounds-accumulate-end : goal.slice_bounds-accumulate-end
slice_bounds-accumulate-end c =
    omega (
      arith,
      (turn_room (goal.at.slice_bounds-accumulate-end c).In-loop-i).within,
      (turn_room (goal.at.slice_bounds-accumulate-end c).In-loop-i).few,
      c.requires.1.size,
    )

pub accumulate-requires : goal.accumulate-requires
accumulate-requires c =
    rw c.new-reducer.ensures
    (correlating_addends c.args.p c.requires.0 c.args.numbers.now c.args.multipliers.now
    c.requires.1 c.loop-i.invariant (turn_below (goal.at.accumulate-requires c).In-loop-i) c.send_multipliers.ensures
    (turn_part (goal.at.accumulate-requires c).In-loop-i))

pub loop-i-preserved : goal.loop-i-preserved
loop-i-preserved c =
    correlating_more c.args.p c.requires.0 c.args.numbers.now c.args.multipliers.now _ _ _ c.loop-i.invariant
    (turn_below (goal.at.loop-i-preserved c).In-loop-i) c.send_multipliers.ensures (turn_part (goal.at.loop-i-preserved c).In-loop-i)
    (rw c.new-reducer.ensures at c.accumulate.ensures)

pub returns : goal.returns
returns c =
    correlating_all c.args.p c.requires.0 c.args.numbers.now c.args.multipliers.now c.loop-i.invariant (omega arith)
