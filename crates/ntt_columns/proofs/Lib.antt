pub mod Four
pub mod Summing
pub mod Loading
pub mod Blocks
