pub mod Uniform
pub mod Small
pub mod Calls
