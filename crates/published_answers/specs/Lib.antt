pub mod Aes
pub mod Permutation
pub mod Sponge
