-- `ntt_plain::twist` meets its contract: after i turns the first i numbers are multiplied, and the others are as they were.
-- Assumes nothing.
use mathlib.Core.Path.{sym}
use Prim.Native.Nat.{◌<◌}
use native.Mathlib.Omega.{arith}
use lib.ListN.{length}
use Rattle.ntt_plain.proofs.Steps.{twisted_length}
use Rattle.ntt_plain.proofs.Lazily.{lazily_all, twisted_more}
use Rattle.ntt_plain.proofs.twist.Goals as goal

pub product-requires : goal.product-requires
product-requires c =
    let turn = c.loop-i in
    let below : turn.i < length c.args.x.now = omega (arith, turn.invariant.kept, c.loop-i-test.true) in
    let exponent = c.twist_exponent-exponent in
    c.requires.factors.each exponent.result (omega (arith, exponent.ensures.1, c.requires.size))

pub loop-i-preserved : goal.loop-i-preserved
loop-i-preserved c =
    let turn = c.loop-i in
    let below : turn.i < length c.args.x.now = omega (arith, turn.invariant.kept, c.loop-i-test.true) in
    let exponent = c.twist_exponent-exponent in
    twisted_more c.args.row exponent.result c.args.powers.now turn.invariant below exponent.ensures.0
    c.product.ensures.0 c.product.ensures.1

pub returns : goal.returns
returns c = lazily_all c.loop-i.invariant (sym (twisted_length _ _ _ _)) (omega (arith, c.loop-i-test.false, c.loop-i.invariant.kept))
