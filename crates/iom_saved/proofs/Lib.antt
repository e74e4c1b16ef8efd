pub mod Again
pub mod Bytes
pub mod Checks
pub mod Codes
pub mod Lists
pub mod Pieces
pub mod Taken
pub mod Tells
