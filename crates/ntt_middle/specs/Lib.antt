pub mod Calls
pub mod Lengths
