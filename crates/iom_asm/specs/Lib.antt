pub mod Assembly
pub mod Drafts
pub mod Listing
pub mod Retelling
