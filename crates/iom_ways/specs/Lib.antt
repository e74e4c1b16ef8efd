pub mod Ways
pub mod Branches
pub mod Asked
