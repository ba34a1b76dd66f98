pub mod Input
pub mod Rows
