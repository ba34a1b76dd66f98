-- `sheet_bench::bytes::size` meets its contract: by the sign, the byte or what it lacks of 256.
-- Assumes nothing.
use native.Mathlib.Omega.{arith}
use Rattle.sheet_bench.proofs.ByteLaws.{size_low, size_high}
use Rattle.sheet_bench.proofs.bytes.size.Goals as goal

pub returns-then-byte-lt128 : goal.returns-then-byte-lt128
returns-then-byte-lt128 c = size_low c.args.byte (omega arith)

pub returns : goal.returns
returns c = size_high c.args.byte (omega arith)
