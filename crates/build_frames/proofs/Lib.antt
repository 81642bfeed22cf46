pub mod Frames
pub mod Arms
pub mod Names
pub mod Sizes
