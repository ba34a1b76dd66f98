-- Laws of the byte source that are part of the promise of this crate: the layers above cite these and the specs,
-- and nothing else of its proofs.
-- Assumes nothing.
pub use Rattle.byte_source.proofs.Length.{output_length, output_seed, output_most}
