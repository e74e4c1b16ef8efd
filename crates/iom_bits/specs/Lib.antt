pub mod Bits
pub mod Bytes
pub mod Causes
pub mod Features
pub mod Rows
