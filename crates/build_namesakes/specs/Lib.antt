pub mod Rows
pub mod Terms
