pub mod Scheme
pub mod Calls
pub mod Noise
pub mod Operands
pub mod Figures
