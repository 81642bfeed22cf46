pub mod Items
pub mod Ring
pub mod Gathers
pub mod Exactly
pub mod Tells
pub mod Descriptor
