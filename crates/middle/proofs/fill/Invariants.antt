-- `middle::fill` meets its contract: each turn writes one place of the middle product.
-- Assumes nothing.
use Prim.Native.Nat.{◌-◌}
use lib.ListN.{length}
use Rattle.maths.specs.Product.{middle_product_of}
use Rattle.calls.proofs.Filled.{Filled}
use Rattle.middle.proofs.fill.Given as goal

abbrev pub invariant-loop-i : goal.invariant-loop-i
invariant-loop-i l = Filled l.initial.out 0 (length l.initial.out) (middle_product_of l.q l.a l.b (length l.initial.out)) l.i l.out
