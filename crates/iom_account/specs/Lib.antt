pub mod Beside
pub mod Following
pub mod Reads
pub mod Account
pub mod Others
