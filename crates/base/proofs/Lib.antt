pub mod Laws
pub mod Refusals
pub mod Sums
pub mod Tests
