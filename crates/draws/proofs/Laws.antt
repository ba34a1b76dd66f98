-- Laws of the draws from bytes that are part of the promise of this crate: the layers above cite these and the specs,
-- and nothing else of its proofs.
-- Assumes nothing.
pub use Rattle.draws.proofs.Accept.{Within, accept_within, accept_below}
pub use Rattle.draws.proofs.Bits.{power_most}
pub use Rattle.draws.proofs.Positions.{turn_length, turn_at, Turned, turned_none, turned_more}
