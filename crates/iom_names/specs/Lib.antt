pub mod Computing
pub mod Names
pub mod Reading
pub mod Slips
