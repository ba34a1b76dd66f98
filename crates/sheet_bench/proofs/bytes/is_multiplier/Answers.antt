-- `sheet_bench::bytes::is_multiplier` meets its contract: both tests are of the size.
-- Assumes nothing.
use borrow.Author.Tests.{le-leb}
use Rattle.sheet_bench.proofs.ByteLaws.{multiplier_none}
use Rattle.sheet_bench.proofs.bytes.is_multiplier.Goals as goal

pub returns-then-size-lt1 : goal.returns-then-size-lt1
returns-then-size-lt1 c = rw (← c.size-size.ensures) (multiplier_none c.size-size.result c.if-size-lt1.true)

pub returns : goal.returns
returns c = rw (← c.size-size.ensures, le-leb 1 c.size-size.result c.if-size-lt1.false)
