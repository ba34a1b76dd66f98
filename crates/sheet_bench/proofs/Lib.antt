pub mod ByteLaws
pub mod Numbers
pub mod NoiseLaws
pub mod Rows
