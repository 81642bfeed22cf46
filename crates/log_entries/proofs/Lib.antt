pub mod Counted
pub mod Entered
pub mod Example
pub mod Pass
pub mod Tests
