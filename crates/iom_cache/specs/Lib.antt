pub mod Places
pub mod Keys
pub mod Drops
pub mod Origins
pub mod Buckets
pub mod Index
pub mod Ranges
pub mod Spared
