pub mod SizeAndSign
pub mod Insertion
pub mod Sorting
pub mod OrderLaws
pub mod Laws
