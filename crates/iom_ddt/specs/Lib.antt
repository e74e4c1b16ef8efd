pub mod Contexts
pub mod Formats
pub mod Words
pub mod Directory
pub mod Refusals
