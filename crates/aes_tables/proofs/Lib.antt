pub mod Tests
pub mod Substitution
pub mod Bytes
