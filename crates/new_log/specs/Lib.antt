pub mod Layout
pub mod Tests
pub mod Accepted
pub mod Refused
pub mod Terms
pub mod Windows
