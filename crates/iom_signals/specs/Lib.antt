pub mod Changes
pub mod Signals
pub mod Reach
pub mod Rises
