pub mod Lines
pub mod Calls
pub mod Watching
pub mod Answering
pub mod Speaking
pub mod Running
