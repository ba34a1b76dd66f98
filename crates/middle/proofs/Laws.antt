-- Laws of the middle product and places of slices that are part of the promise of this crate: the layers above cite these and the specs,
-- and nothing else of its proofs.
-- Assumes nothing.
pub use Rattle.middle.proofs.Chained.{two_slices, accepted_one, accepted_two}
