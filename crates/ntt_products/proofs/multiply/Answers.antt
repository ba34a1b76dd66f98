-- `ntt_products::multiply` meets its contract: after j turns the first j numbers are products, and the others are as they were.
-- Assumes nothing.
use mathlib.Core.Path.{refl, sym, ◌∙◌}
use Prim.Native.Nat.{◌<◌}
use native.Mathlib.Nat.{zero-add}
use native.Mathlib.Omega.{arith}
use lib.ListN.{length}
use Rattle.calls.proofs.Filled.{filled_none, filled_more, filled_whole, ahead}
use Rattle.ntt_products.proofs.Pointwise.{products_length, products_at}
use Rattle.ntt_products.proofs.multiply.Goals as goal

pub loop-j-init : goal.loop-j-init
loop-j-init c = filled_none (products_length _ _ _) (omega arith)

pub loop-j-preserved : goal.loop-j-preserved
loop-j-preserved c =
    let turn = c.loop-j in
    let below : turn.j < length c.args.x.now = omega (arith, turn.invariant.kept_length, c.loop-j-test.true) in
    filled_more 0 turn.invariant below (sym (zero-add turn.j))
    (c.settle_number.ensures
    ∙ rw (ahead turn.invariant) (sym (products_at c.args.reducer.q c.args.x.now c.args.y.now turn.j below)))

pub returns : goal.returns
returns c = filled_whole c.loop-j.invariant refl (omega (arith, c.loop-j-test.false, c.loop-j.invariant.kept_length))
