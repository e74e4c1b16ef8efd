pub mod Commands
pub mod Records
pub mod Denials
pub mod Fetching
pub mod Delivery
