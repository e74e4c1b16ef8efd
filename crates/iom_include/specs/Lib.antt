pub mod Including
pub mod Reading
pub mod Faults
pub mod Kept
pub mod Placing
