pub mod Noises
pub mod NoiseResidue
pub mod Noisy
pub mod Numbers
pub mod Draws
pub mod Seeds
pub mod Claim
pub mod Ceiling
