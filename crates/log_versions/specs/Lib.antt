pub mod Versions
pub mod Terms
