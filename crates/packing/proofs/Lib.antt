pub mod Digits
pub mod Position
pub mod Dropped
pub mod Words
pub mod Groups
pub mod Message
pub mod Laws
