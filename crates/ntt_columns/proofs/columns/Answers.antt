-- `ntt_columns::columns` meets its contract: after b turns the first 64 · b columns are transformed.
-- Assumes nothing.
use mathlib.Core.Path.{refl}
use Rattle.ntt_columns.proofs.Loading.{zeros_at}
use Rattle.ntt_columns.proofs.Blocks.{columns_none, columns_more, columns_all}
use Rattle.ntt_columns.proofs.columns.Goals as goal

pub loop-b-init : goal.loop-b-init
loop-b-init c = (columns_none c.requires, record { size = refl; zeros = λ i h. zeros_at 1024 i })

pub loop-b-preserved : goal.loop-b-preserved
loop-b-preserved c =
    let made = c.column_block in
    let more = c.loop-b-test.true in
    (columns_more c.requires c.loop-b.invariant.0 more made.auto.x made.ensures.result, made.ensures.lent)

pub returns : goal.returns
returns c = columns_all c.requires c.loop-b.invariant.0 c.loop-b-test.false
