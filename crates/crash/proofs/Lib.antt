pub mod Demand3
pub mod Barrier
pub mod Twice
pub mod AtOnce
pub mod Older
