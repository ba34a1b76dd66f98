-- `packing::pack_words` (003, algorithm 19) meets its contract: of the numbers taken, j bytes are written and less than four are held.
-- Assumes nothing.
use Prim.Native.Nat.{◌-◌, ◌<◌}
use lib.ListN.{length}
use Rattle.calls.proofs.Filled.{Filled}
use Rattle.packing.specs.Dropped.{high_parts, pack_dropping_of}
use Rattle.packing.proofs.Words.{Held}
use Rattle.packing.proofs.pack_words.Given as goal

abbrev pub invariant-loop-number : goal.invariant-loop-number
invariant-loop-number l =
    (l.bits < 32) × Held (l.width - l.cmp) (high_parts l.cmp l.numbers) l.number-index l.bits l.j l.held × Filled l.initial.out 0 (length l.initial.out)
    (pack_dropping_of l.width l.cmp (length l.initial.out) l.numbers) l.j l.out
