pub mod Sponge
pub mod Kmac
pub mod Absorbed
pub mod Taken
