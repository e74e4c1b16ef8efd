pub mod Fetches
pub mod Passing
pub mod Refusing
pub mod Bounds
pub mod Sameness
pub mod Widths
pub mod Under
