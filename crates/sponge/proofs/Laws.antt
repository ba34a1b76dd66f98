-- Laws of the sponge functions that are part of the promise of this crate: the layers above cite these and the specs,
-- and nothing else of its proofs.
-- Assumes nothing.
pub use Rattle.sponge.proofs.Squeezing.{shake256_length}
