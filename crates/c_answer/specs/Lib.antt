pub mod Coded
