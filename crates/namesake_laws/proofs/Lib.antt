pub mod Searches
pub mod Blocks
pub mod Scans
