pub mod Field
pub mod State
pub mod Substitution
pub mod Words
