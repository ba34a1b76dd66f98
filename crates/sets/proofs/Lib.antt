pub mod Tested
pub mod Rules
pub mod Lengths
pub mod Transforms
pub mod Schemes
pub mod Counts
pub mod Served
