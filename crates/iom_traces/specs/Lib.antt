pub mod Sights
pub mod Texts
pub mod Rulings
pub mod Trials
pub mod Drives
pub mod Reports
pub mod Whole
pub mod Shown
