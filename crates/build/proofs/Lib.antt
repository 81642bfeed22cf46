pub mod Sizes
pub mod Calls
