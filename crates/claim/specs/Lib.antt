pub mod Claim
pub mod Ceiling
pub mod Reversed
