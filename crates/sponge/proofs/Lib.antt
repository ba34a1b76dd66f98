pub mod Bytes
pub mod Absorbing
pub mod Squeezing
pub mod Encoding
pub mod Laws
