pub mod Laws
pub mod Segments
pub mod Frame
