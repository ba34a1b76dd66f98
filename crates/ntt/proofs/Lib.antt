pub mod Places
pub mod Rows
pub mod Totals
pub mod Whole
