pub mod Longest
pub mod Rest
pub mod Runs
