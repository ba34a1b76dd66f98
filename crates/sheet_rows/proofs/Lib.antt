pub mod Sets
pub mod RowLaws
pub mod SeededLaws
pub mod InputClaim
