-- `ntt_plain::fill_columns` meets its contract: after i turns the first i values are written.
-- Assumes nothing.
use mathlib.Core.Path.{sym}
use Prim.Native.Nat.{◌<◌}
use native.Mathlib.Omega.{arith}
use lib.ListN.{length}
use Rattle.ntt_plain.proofs.Steps.{row_start, columns_length, column_summable}
use Rattle.ntt_plain.proofs.Lazily.{lazily_all, columns_more}
use Rattle.ntt_plain.proofs.fill_columns.Goals as goal

pub overflow_mul-i : goal.overflow_mul-i
overflow_mul-i c = let turn = c.loop-i in omega (arith, row_start c.args.row turn.i)

pub strided_sum-sum-requires : goal.strided_sum-sum-requires
strided_sum-sum-requires c =
    let pre = c.requires in
    column_summable pre.0 _ c.loop-i.i pre.1 (omega (arith, c.loop-i.invariant.kept, c.loop-i-test.true, pre.2))

pub loop-i-preserved : goal.loop-i-preserved
loop-i-preserved c =
    let turn = c.loop-i in
    let below : turn.i < length c.args.to.now = omega (arith, turn.invariant.kept, c.loop-i-test.true) in
    columns_more c.args.row c.args.m c.strided_sum-sum.result c.args.powers.now c.args.x.now turn.invariant below
    c.strided_sum-sum.ensures c.long_step.ensures.0 c.long_step.ensures.1

pub returns : goal.returns
returns c = lazily_all c.loop-i.invariant (sym (columns_length _ _ _ _ _ _)) (omega (arith, c.loop-i-test.false, c.loop-i.invariant.kept))
