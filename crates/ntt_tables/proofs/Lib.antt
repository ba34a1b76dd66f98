pub mod Inverted
pub mod Fill
pub mod Twist
pub mod Made
