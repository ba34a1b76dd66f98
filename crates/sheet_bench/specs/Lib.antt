pub mod Bench
pub mod Operands
