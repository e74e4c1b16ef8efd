pub mod Stale
pub mod Parts
pub mod Bounds
pub mod Fetches
pub mod Passing
pub mod Standing
