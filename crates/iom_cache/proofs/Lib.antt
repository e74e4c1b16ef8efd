pub mod Kept
pub mod Same
pub mod Held
mod Shifts
mod Raised
pub mod Stamped
pub mod Since
pub mod Origins
pub mod Chains
pub mod Indexed
pub mod Apart
pub mod Counted
pub mod Tallied
pub mod Meeting
mod Named
mod Spared
