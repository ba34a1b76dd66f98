-- Laws of butterflies with lazy reduction.
pub mod Lazy
