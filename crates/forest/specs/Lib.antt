pub mod Forest
pub mod Allowed
pub mod Faults
pub mod Behind
pub mod First
pub mod Parse
