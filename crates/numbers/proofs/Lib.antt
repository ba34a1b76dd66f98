pub mod BitLaws
pub mod ReadingLaws
pub mod Size
pub mod Family
pub mod KeyLaws
pub mod MultiplierLaws
pub mod SealingLaws
pub mod Laws
