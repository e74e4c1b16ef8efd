pub mod Depths
pub mod Cuts
pub mod Keeping
pub mod Lefts
pub mod Naming
pub mod Plain
pub mod Refusals
pub mod Placing
