pub mod Remnants
pub mod Found
pub mod Refused
pub mod Terms
