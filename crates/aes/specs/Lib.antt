pub mod Cipher
pub mod Key
