pub mod Modulo
pub mod First
pub mod Bits
pub mod Secret
pub mod Room
