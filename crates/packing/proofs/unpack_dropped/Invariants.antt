-- `packing::unpack_dropped` (003, algorithm 22) meets its contract: after the groups, number i begins at the given bit of byte j, and the numbers before it are
-- written.
-- Assumes nothing.
use Prim.Native.Nat.{◌-◌}
use lib.ListN.{length}
use Rattle.calls.proofs.Filled.{Filled}
use Rattle.packing.specs.Dropped.{unpack_dropped_of}
use Rattle.packing.proofs.Position.{Position}
use Rattle.packing.proofs.unpack_dropped.Given as goal

abbrev pub invariant-loop-i : goal.invariant-loop-i
invariant-loop-i l =
    Position 8 (l.width - l.cmp) l.j l.bit l.i × Filled l.initial.out 0 (length l.initial.out) (unpack_dropped_of l.width l.cmp (length l.initial.out) l.bytes)
    l.i l.out
