-- `packing::byte_of_bits` (003, algorithm 28) meets its contract: the bits are gathered from the last one down.
-- Assumes nothing.
use Rattle.packing.proofs.Message.{Gathered}
use Rattle.packing.proofs.byte_of_bits.Given as goal

abbrev pub invariant-loop-k : goal.invariant-loop-k
invariant-loop-k l = Gathered l.bits l.from l.k l.byte
