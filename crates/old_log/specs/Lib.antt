pub mod Layout
pub mod Tests
pub mod Accepted
pub mod Refused
