pub mod Hits
pub mod Stages
pub mod Faults
pub mod Files
pub mod Nested
pub mod Pages
