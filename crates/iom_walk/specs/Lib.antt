pub mod Shape
pub mod Verdict
pub mod Path
pub mod Outcome
pub mod Pages
pub mod Told
pub mod Noted
