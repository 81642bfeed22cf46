pub mod Facts
pub mod Hive
pub mod Versions
pub mod Half
pub mod Closing
pub mod Accepts
pub mod Refusals
pub mod Rules
