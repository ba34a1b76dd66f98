pub mod Barrett
pub mod Remainder
pub mod Signed
pub mod Laws
