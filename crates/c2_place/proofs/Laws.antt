-- Laws of the walk over c2 that are part of the promise of this crate: the layers above cite these and the specs,
-- and nothing else of its proofs.
-- Assumes nothing.
pub use Rattle.c2_place.proofs.Walk.{walked_none, walked_length, walked_all}
