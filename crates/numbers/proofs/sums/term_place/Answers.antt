-- `numbers::sums::term_place` meets its contract: both factors are vectors of their families.
-- Assumes nothing.
use mathlib.Core.Path.{refl, ◌∙◌}
use Prim.Native.Nat.{◌+◌, ◌≤◌}
use native.Mathlib.Omega.{arith}
use lib.ListN.{length}
use Rattle.calls.proofs.Region.{region_part}
use Rattle.numbers.proofs.Family.{family_room, family_operand}
use Rattle.numbers.proofs.sums.term_place.Goals.{After-product-from, After-product-start}
use Rattle.numbers.proofs.sums.term_place.Goals as goal

-- vector i of the first family lies within it
first_room : (c : After-product-start) → c.product-start.result + c.args.m ≤ length c.args.xs.now
first_room c = rw c.product-start.ensures (family_room c.requires.1 c.args.i c.requires.5)

-- and so does that of the second
second_room : (c : After-product-from)
    → c.product-from.result + c.args.n ≤ length c.args.ys.now
second_room c = rw c.product-from.ensures (family_room c.requires.2 c.args.i c.requires.5)

pub overflow_add-stop : goal.overflow_add-stop
overflow_add-stop c = omega (arith, first_room c)

pub overflow_add-end : goal.overflow_add-end
overflow_add-end c = omega (arith, second_room c)

pub offset_bounds-xs-start : goal.offset_bounds-xs-start
offset_bounds-xs-start c = omega (arith, first_room (goal.at.offset_bounds-xs-start c).After-product-start)

pub slice_bounds-product_place-end : goal.slice_bounds-product_place-end
slice_bounds-product_place-end c = omega (arith, first_room (goal.at.slice_bounds-product_place-end c).After-product-start)

pub offset_bounds-ys-from : goal.offset_bounds-ys-from
offset_bounds-ys-from c = omega (arith, second_room (goal.at.offset_bounds-ys-from c).After-product-from)

pub slice_bounds-product_place-end-2 : goal.slice_bounds-product_place-end-2
slice_bounds-product_place-end-2 c = omega (arith, second_room (goal.at.slice_bounds-product_place-end-2 c).After-product-from)

pub product_place-requires : goal.product_place-requires
product_place-requires c =
    let kept = c.requires.0 in (
      rw (region_part c.args.xs.now c.product-start.result c.args.m _ refl, c.product-start.ensures)
          (family_operand c.requires.1 c.args.i c.requires.5 kept.small c.requires.3),
      rw (region_part c.args.ys.now c.product-from.result c.args.n _ refl, c.product-from.ensures)
          (family_operand c.requires.2 c.args.i c.requires.5 kept.small c.requires.4),
      c.requires.6,
      omega (arith, kept.prime.above),
    )

pub returns : goal.returns
returns c =
    c.product_place.ensures
    ∙ rw (
      region_part c.args.xs.now c.product-start.result c.args.m _ refl,
      region_part c.args.ys.now
          c.product-from.result c.args.n _ refl,
      c.product-start.ensures,
      c.product-from.ensures,
    )
