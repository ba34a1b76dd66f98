-- Laws of the steps: what loops have written so far, the two halves together, and the exchange of rows and columns.
pub mod FourWritten
pub mod Halves
pub mod Exchanges
