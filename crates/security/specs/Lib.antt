pub mod Items
pub mod Stands
pub mod Refused
pub mod Descriptor
pub mod Terms
