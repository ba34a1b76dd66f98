-- `packing::unpack_group` (003, algorithms 20 and 22) meets its contract: after k turns the first k numbers of the group stand in place.
-- Assumes nothing.
use Rattle.calls.proofs.Filled.{Filled}
use Rattle.packing.specs.Digits.{group}
use Rattle.packing.proofs.unpack_group.Given as goal

abbrev pub invariant-loop-k : goal.invariant-loop-k
invariant-loop-k l = Filled l.initial.out l.i 8 (group l.kept l.cmp l.j l.bytes) l.k l.out
