pub mod Delivers
pub mod Freed
pub mod Puts
pub mod Rises
pub mod Signals
