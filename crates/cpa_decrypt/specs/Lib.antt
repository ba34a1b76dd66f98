pub mod Decrypted
