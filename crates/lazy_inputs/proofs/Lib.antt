-- Laws of the inputs: one test over the table of sets.
pub mod Inputs
