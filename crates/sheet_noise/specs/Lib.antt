pub mod Centred
