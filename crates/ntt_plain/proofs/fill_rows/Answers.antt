-- `ntt_plain::fill_rows` meets its contract: after i turns the first i values are written.
-- Assumes nothing.
use mathlib.Core.Path.{sym, ◌∙◌}
use Prim.Native.Nat.{◌<◌}
use native.Mathlib.Omega.{arith}
use lib.ListN.{length}
use Rattle.ntt_plain.proofs.Steps.{row_start, rows_length, row_summable}
use Rattle.ntt_plain.proofs.Lazily.{lazily_all, rows_more}
use Rattle.ntt_plain.proofs.fill_rows.Goals as goal

pub overflow_mul-i : goal.overflow_mul-i
overflow_mul-i c = let turn = c.loop-i in omega (arith, row_start c.args.row turn.i)

pub overflow_mul-i-in-loop-i : goal.overflow_mul-i-in-loop-i
overflow_mul-i-in-loop-i c =
    let pre = c.requires in
    let below : c.loop-i.i < length c.args.x.now =
    omega (arith, c.loop-i.invariant.kept, c.loop-i-test.true, pre.3) in
    omega (arith, (row_summable pre.0 _ c.loop-i.i pre.1 pre.2 below).some_powers, pre.0.few)

pub strided_sum-sum-requires : goal.strided_sum-sum-requires
strided_sum-sum-requires c =
    let pre = c.requires in
    row_summable pre.0 _ c.loop-i.i pre.1 pre.2 (omega (arith, c.loop-i.invariant.kept, c.loop-i-test.true, pre.3))

pub loop-i-preserved : goal.loop-i-preserved
loop-i-preserved c =
    let turn = c.loop-i in
    let below : turn.i < length c.args.x.now = omega (arith, turn.invariant.kept, c.loop-i-test.true, c.requires.3) in
    rows_more c.args.row c.args.count c.strided_sum-sum.result c.args.powers.now c.args.x.now turn.invariant
    c.requires.3 below c.strided_sum-sum.ensures c.long_step.ensures.0 c.long_step.ensures.1

pub returns : goal.returns
returns c =
    let size = c.requires.3 ∙ sym (rows_length _ _ _ _ _) in
    lazily_all c.loop-i.invariant size (omega (arith, c.loop-i-test.false, c.loop-i.invariant.kept))
