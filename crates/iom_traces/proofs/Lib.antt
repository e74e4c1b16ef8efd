pub mod Telling
pub mod Passed
pub mod Words
pub mod Each
pub mod Shown
