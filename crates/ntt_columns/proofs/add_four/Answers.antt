-- `ntt_columns::add_four` meets its contract: after j turns the first j sums have four products more.
-- Assumes nothing.
use native.Mathlib.Omega.{arith}
use Rattle.ntt_columns.proofs.Four.{adding_more, four_below}
use Rattle.ntt_columns.proofs.add_four.Goals as goal

pub step-requires : goal.step-requires
step-requires c =
    let args = c.args in
    let j = c.loop-j.j in
    let below = four_below args.block.now j args.a args.b args.c args.d c.requires.numbers c.requires.factors
    c.loop-j-test.true (omega (arith, c.args.reducer.modulus.modulus.some)) in
    rw c.four_products.ensures below

pub loop-j-preserved : goal.loop-j-preserved
loop-j-preserved c =
    let turn = c.loop-j in
    adding_more c.requires.sums_size turn.invariant c.loop-j-test.true c.four_products.ensures c.step.ensures.0
    c.step.ensures.1
