pub mod PlaceSum
pub mod Chained
pub mod OpenCall
pub mod MiddleAnswer
pub mod Laws
