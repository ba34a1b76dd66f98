-- Laws of the bytes of the key exchange, for the crates above.
-- Assumes nothing.
pub use Rattle.cca_bytes.proofs.Parts.{both_over}
