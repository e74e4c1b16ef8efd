pub mod Cuts
pub mod Digits
pub mod Firsts
pub mod Leading
pub mod Numbers
pub mod Searches
