pub mod ShareAKey
