-- `sheet_bench::bytes::copy_numbers` meets its contract: each turn writes the next number.
-- Assumes nothing.
use lib.ListN.{length}
use Rattle.calls.specs.Region.{region}
use Rattle.calls.proofs.Filled.{Filled}
use Rattle.sheet_bench.proofs.bytes.copy_numbers.Given as goal

abbrev pub invariant-loop-i : goal.invariant-loop-i
invariant-loop-i l = Filled l.initial.out 0 (length l.initial.out) (region l.input l.from (length l.initial.out)) l.i l.out
