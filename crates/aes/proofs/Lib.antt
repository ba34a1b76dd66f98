pub mod Columns
pub mod Schedule
