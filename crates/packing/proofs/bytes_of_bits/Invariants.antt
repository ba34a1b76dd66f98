-- `packing::bytes_of_bits` (003, algorithm 28) meets its contract: after i turns the first i bytes stand in place.
-- Assumes nothing.
use lib.ListN.{length}
use Rattle.calls.proofs.Filled.{Filled}
use Rattle.packing.specs.Message.{message_bytes}
use Rattle.packing.proofs.bytes_of_bits.Given as goal

abbrev pub invariant-loop-i : goal.invariant-loop-i
invariant-loop-i l = Filled l.initial.out 0 (length l.initial.out) (message_bytes (length l.initial.out) l.bits) l.i l.out
