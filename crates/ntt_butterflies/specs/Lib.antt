pub mod Lazy
