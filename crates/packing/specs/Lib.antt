pub mod Digits
pub mod Dropped
pub mod Message
