pub mod Newton
pub mod Scaled
pub mod Reduction
pub mod Lazy
pub mod Laws
