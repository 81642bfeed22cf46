pub mod Rows
pub mod Scans
pub mod Laws
pub mod Judged
