pub mod Versions
pub mod Image
pub mod Reading
pub mod Loading
pub mod Own
pub mod Upgrading
