-- `packing::unpack_groups` (003, algorithm 22) meets its contract: the numbers of the groups before this one are written.
-- Assumes nothing.
use Prim.Native.Nat.{◌*◌}
use lib.ListN.{length}
use Rattle.calls.proofs.Filled.{Filled}
use Rattle.packing.specs.Dropped.{unpack_dropped_of}
use Rattle.packing.proofs.unpack_groups.Given as goal

abbrev pub invariant-loop-group : goal.invariant-loop-group
invariant-loop-group l =
    Filled l.initial.out 0 (length l.initial.out) (unpack_dropped_of l.width l.cmp (length l.initial.out) l.bytes) (8 * l.group) l.out
