pub mod Beginning
pub mod Ending
pub mod Scripts
pub mod Naming
pub mod Marking
pub mod Playing
