pub mod Tapes
