-- `sheet_bench::bytes::copy_signed` meets its contract: each turn writes the next number.
-- Assumes nothing.
use mathlib.Core.List.{map}
use lib.ListN.{length}
use Rattle.calls.specs.Region.{region}
use Rattle.calls.proofs.Filled.{Filled}
use Rattle.sheet_bench.specs.Bench.{signed}
use Rattle.sheet_bench.proofs.bytes.copy_signed.Given as goal

abbrev pub invariant-loop-i : goal.invariant-loop-i
invariant-loop-i l = Filled l.initial.out 0 (length l.initial.out) (map signed (region l.input l.from (length l.initial.out))) l.i l.out
