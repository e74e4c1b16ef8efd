pub mod Sameness
pub mod Chain
pub mod Pieces
pub mod Telling
