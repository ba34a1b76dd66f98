-- Laws of residues that are part of the promise of this crate: the layers above cite these and the specs,
-- and nothing else of its proofs.
-- Assumes nothing.
pub use Rattle.residues.proofs.Remainder.{remainder_below, one_subtraction, product_below}
pub use Rattle.residues.proofs.Signed.{stored, raise_most, raised_fits, raised_stored}
