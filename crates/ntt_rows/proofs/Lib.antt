-- Laws of the transform of a row: its steps together, and the loops over a row.
pub mod Rows
