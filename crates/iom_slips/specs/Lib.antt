pub mod Ranges
pub mod Quoting
pub mod Patterns
pub mod Items
pub mod Slips
pub mod Statements
pub mod Telling
