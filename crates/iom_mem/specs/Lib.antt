pub mod Memory
pub mod Sizes
pub mod Words
pub mod Lent
