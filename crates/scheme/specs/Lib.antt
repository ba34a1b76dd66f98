pub mod Encryption
pub mod Noise
pub mod Dropped
pub mod Conditions
pub mod Bits
pub mod Exchange
pub mod Answers
