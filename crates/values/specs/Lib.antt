pub mod Records
pub mod Facts
pub mod Entries
pub mod Segments
pub mod Parts
pub mod Lists
pub mod Refused
pub mod Terms
