pub mod Suites
pub mod Naming
