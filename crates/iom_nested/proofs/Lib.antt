pub mod Packed
pub mod Pages
