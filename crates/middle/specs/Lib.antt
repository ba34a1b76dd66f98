pub mod Operand
pub mod Calls
