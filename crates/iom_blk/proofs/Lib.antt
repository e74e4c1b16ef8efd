pub mod Asking
pub mod Breaks
pub mod Kept
pub mod Ready
pub mod Reasons
pub mod Served
