pub mod Modes
pub mod Paths
pub mod Reasons
