pub mod SealAndRead
