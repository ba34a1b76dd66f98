-- `packing::pack_dropping` (003, algorithm 19) meets its contract: after the words, byte j begins at the given bit of number i, and the bytes before it are
-- written.
-- Assumes nothing.
use Prim.Native.Nat.{◌-◌}
use lib.ListN.{length}
use Rattle.calls.proofs.Filled.{Filled}
use Rattle.packing.specs.Dropped.{pack_dropping_of}
use Rattle.packing.proofs.Position.{Position}
use Rattle.packing.proofs.pack_dropping.Given as goal

abbrev pub invariant-loop-j : goal.invariant-loop-j
invariant-loop-j l =
    Position (l.width - l.cmp) 8 l.i l.bit l.j × Filled l.initial.out 0 (length l.initial.out) (pack_dropping_of l.width l.cmp (length l.initial.out)
    l.numbers) l.j l.out
