pub mod Middle
pub mod Answers
