pub mod Table
pub mod Derived
pub mod Rules
