pub mod Ways
pub mod Turns
pub mod Coming
pub mod Exports
pub mod Refusals
pub mod Calls
