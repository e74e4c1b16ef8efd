pub mod Cuts
pub mod Taken
pub mod Told
pub mod Stopped
