-- `packing::bits_of` (003, algorithm 27) meets its contract: after i turns the first i bits stand in place.
-- Assumes nothing.
use lib.ListN.{length}
use Rattle.calls.proofs.Filled.{Filled}
use Rattle.packing.specs.Message.{message_bits_of}
use Rattle.packing.proofs.bits_of.Given as goal

abbrev pub invariant-loop-i : goal.invariant-loop-i
invariant-loop-i l = Filled l.initial.out 0 (length l.initial.out) (message_bits_of (length l.initial.out) l.message) l.i l.out
