pub mod Words
pub mod Sums
pub mod Held
pub mod Drawn
