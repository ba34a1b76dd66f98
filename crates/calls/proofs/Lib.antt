pub mod Outcome
pub mod Checks
pub mod Region
pub mod Filled
pub mod Written
pub mod Parts
