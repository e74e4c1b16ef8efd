pub mod Accesses
pub mod Walking
pub mod Explaining
pub mod Drives
