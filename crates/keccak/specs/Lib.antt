pub mod Lane
pub mod Keccak
pub mod Rules
