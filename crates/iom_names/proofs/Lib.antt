pub mod Kept
pub mod Long
