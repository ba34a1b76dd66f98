pub mod Multiplied
pub mod Adding
pub mod Correlating
pub mod Sealed
pub mod Walk
