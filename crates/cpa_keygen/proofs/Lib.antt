pub mod Room
pub mod Sums
pub mod Drawn
pub mod KeyVectors
pub mod WholeKey
