pub mod Padded
pub mod Lent
