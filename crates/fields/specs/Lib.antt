pub mod Number
pub mod Bytes
pub mod Position
pub mod Faults
pub mod Charges
