pub mod Contexts
pub mod Directories
pub mod Located
pub mod Requests
