pub mod Entries
pub mod Terms
