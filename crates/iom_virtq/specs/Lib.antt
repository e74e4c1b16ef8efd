pub mod Adding
pub mod Bus
pub mod Chains
