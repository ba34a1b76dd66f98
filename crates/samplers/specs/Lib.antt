pub mod Blocks
pub mod Seeded
