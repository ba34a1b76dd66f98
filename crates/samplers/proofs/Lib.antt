pub mod Continuing
pub mod Uniform
pub mod Drawing
pub mod Values
pub mod Rows
pub mod Answers
pub mod Laws
