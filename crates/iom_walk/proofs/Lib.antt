pub mod Entries
pub mod Frames
pub mod Noted
pub mod Pages
pub mod Paths
pub mod Walks
