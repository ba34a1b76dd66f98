-- `report::checksum`: the sum stays below the prime.
-- Assumes nothing.
use Prim.Native.Nat.{◌<◌}
use Rattle.report.proofs.checksum.Given as goal

abbrev pub invariant-loop-value : goal.invariant-loop-value
invariant-loop-value g l = l.sum < 4294967291
