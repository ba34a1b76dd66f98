pub mod Tables
pub mod Inverted
pub mod Steps
