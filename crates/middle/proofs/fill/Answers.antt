-- `middle::fill` meets its contract: each turn writes one place of the middle product.
-- Assumes nothing.
use mathlib.Core.Path.{refl, sym, ◌∙◌}
use Prim.Native.Nat.{◌-◌}
use lib.ListN.{length}
use native.Mathlib.Omega.{arith}
use Rattle.maths.proofs.Product.{middle_product_length, middle_product_at}
use Rattle.calls.proofs.Filled.{filled_none, filled_more, filled_whole}
use Rattle.middle.proofs.fill.Goals as goal

pub loop-i-init : goal.loop-i-init
loop-i-init c = filled_none (middle_product_length _ _ _ _) (omega arith)

pub loop-i-preserved : goal.loop-i-preserved
loop-i-preserved c =
    filled_more 0 c.loop-i.invariant (omega arith) (omega arith)
    (c.product_place.ensures
    ∙ sym (middle_product_at c.args.q c.args.a.now c.args.b.now (length c.args.out.now) c.loop-i.i
    (omega arith)))

pub returns : goal.returns
returns c = filled_whole c.loop-i.invariant refl (omega arith)
