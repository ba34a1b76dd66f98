pub mod Checks
pub mod Printed
