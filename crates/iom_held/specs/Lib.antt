pub mod Kept
pub mod Tags
pub mod Shelves
pub mod Naming
