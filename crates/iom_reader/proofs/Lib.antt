pub mod Splits
pub mod Lists
pub mod Feeding
pub mod Runs
pub mod Chains
