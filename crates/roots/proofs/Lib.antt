pub mod Roots
pub mod Bench
pub mod Laws
