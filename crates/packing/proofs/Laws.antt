-- Laws of packed numbers and message bits that are part of the promise of this crate: the layers above cite these and the specs,
-- and nothing else of its proofs.
-- Assumes nothing.
pub use Rattle.packing.proofs.Digits.{unpack_pack, pack_length, unpack_length, unpack_below}
pub use Rattle.packing.proofs.Dropped.{chop_dropped, dropped_below, unpack_dropped_pack_dropping, pack_dropping_length, unpack_dropped_below}
pub use Rattle.packing.proofs.Message.{message_bytes_message_bits, message_bits_message_bytes, message_bits_length, message_bits_below, message_bytes_length}
pub use Rattle.packing.proofs.Message.{message_bits_at, message_bytes_below}
