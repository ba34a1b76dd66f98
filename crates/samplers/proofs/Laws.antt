-- Laws of the draws from a seed that are part of the promise of this crate: the layers above cite these and the specs,
-- and nothing else of its proofs.
-- Assumes nothing.
pub use Rattle.samplers.proofs.Answers.{Onto, answer_onto, answer_refusal, secret_state_small, public_state_small}
pub use Rattle.samplers.proofs.Uniform.{uniform_never_ends, uniform_length, uniform_short, uniform_below}
pub use Rattle.samplers.proofs.Values.{errors_drawn_length, errors_drawn_most, multipliers_drawn_length, multipliers_drawn_most}
