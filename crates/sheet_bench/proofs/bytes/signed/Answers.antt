-- `sheet_bench::bytes::signed` meets its contract: the byte, or 256 less.
-- Assumes nothing.
use native.Mathlib.Omega.{arith}
use Rattle.sheet_bench.proofs.ByteLaws.{stored_low, less_fits, stored_high}
use Rattle.sheet_bench.proofs.bytes.signed.Goals as goal

pub returns-then-byte-lt128 : goal.returns-then-byte-lt128
returns-then-byte-lt128 c = stored_low c.args.byte (omega arith)

pub overflow_sub-result : goal.overflow_sub-result
overflow_sub-result c = less_fits c.args.byte (omega arith) (omega arith)

pub returns : goal.returns
returns c = stored_high c.args.byte (omega arith) (omega arith)
