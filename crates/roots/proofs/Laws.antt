-- Laws of the roots of the sets that are part of the promise of this crate: the layers above cite these and the specs,
-- and nothing else of its proofs.
-- Assumes nothing.
pub use Rattle.roots.proofs.Roots.{listed_root}
