pub mod Candidates
pub mod Accept
pub mod Sampling
pub mod Results
pub mod Bits
pub mod Positions
pub mod Laws
