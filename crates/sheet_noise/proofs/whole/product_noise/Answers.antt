-- Each turn adds the part of one polynomial.
-- Assumes nothing.
use mathlib.Core.Path.{◌∙◌}
use native.Mathlib.Omega.{arith}
use mir.Syntax.{w64}
use mir.Val.{SFits}
use Rattle.sheet_noise.specs.Centred.{centred_product}
use Rattle.sheet_noise.proofs.Sums.{summing_none, summing_more, summing_all, summing_small, Room, room, by_half, half_small, part_is, part_most}
use Rattle.sheet_noise.proofs.Sums.{held_small}
use borrow.Author.Rules.{rules}
use Rattle.sheet_noise.proofs.whole.product_noise.Goals.{In-loop-i}
use Rattle.sheet_noise.proofs.whole.product_noise.Goals as goal

pub overflow_add-row : goal.overflow_add-row
overflow_add-row c = omega (arith, c.requires.0.most_k)

pub overflow_add-long : goal.overflow_add-long
overflow_add-long c = omega (arith, c.requires.0.most_k, c.requires.0.most_d)

pub loop-i-init : goal.loop-i-init
loop-i-init c = summing_none _ _

-- the places of one polynomial's numbers
room_of : (c : In-loop-i)
    → Room c.args.p c.loop-i.i
    c.args.j
room_of c =
    room c.args.p c.requires.0 c.requires.1 c.loop-i.i c.args.j (omega arith) c.requires.7

pub overflow_mul-row : goal.overflow_mul-row
overflow_mul-row c = omega (arith, (room_of c).multipliers_in, (room_of c).few_multipliers)

pub overflow_mul-long : goal.overflow_mul-long
overflow_mul-long c = omega (arith, (room_of c).errors_in, (room_of c).few_errors)

pub overflow_add-long-in-loop-i : goal.overflow_add-long-in-loop-i
overflow_add-long-in-loop-i c = omega (arith, (room_of c).errors_in, (room_of c).few_errors)

pub correlation_at-part-requires : goal.correlation_at-part-requires
correlation_at-part-requires c =
    let pre = c.requires in
    let within = room_of c in
    rw (pre.2, pre.3, pre.4) (
      within.multipliers_in,
      within.errors_in,
      omega (arith, pre.0.most_k),
      within.few_multipliers,
      within.few_errors,
      half_small c.args.p pre.0 pre.1,
      by_half c.args.p pre.0 pre.1 c.args.multipliers.now c.args.errors.now pre.5 pre.6 _ pre.5,
      by_half c.args.p pre.0 pre.1 c.args.multipliers.now c.args.errors.now pre.5 pre.6 _ pre.6,
    )

pub plus-sum-requires : goal.plus-sum-requires
plus-sum-requires c =
    let pre = c.requires in
    let each = part_most c.args.p pre.0 pre.1 c.args.multipliers.now c.args.errors.now pre.5 pre.6 c.args.j in
    let fits : SFits w64 c.correlation_at-part.result = search rules in (
      summing_small _ _ 72057594037927936 c.loop-i.invariant each (omega (arith, pre.0.most_t)),
      held_small fits (c.correlation_at-part.ensures
          ∙ part_is c.args.p _ c.args.multipliers.now c.args.errors.now c.args.j c.loop-i.i
          pre.2)
          (omega (arith, each c.loop-i.i)),
    )

pub loop-i-preserved : goal.loop-i-preserved
loop-i-preserved c =
    let one : SFits w64 c.correlation_at-part.result = search rules in
    let fits : SFits w64 c.plus-sum.result = search rules in
    summing_more _ _ c.plus-sum.result c.correlation_at-part.result c.loop-i.invariant (omega arith) fits one
    c.plus-sum.ensures (c.correlation_at-part.ensures
    ∙ part_is c.args.p _ c.args.multipliers.now c.args.errors.now c.args.j c.loop-i.i
    c.requires.2)

pub returns : goal.returns
unfolding centred_product
returns c = summing_all _ _ c.loop-i.invariant (omega arith)
