pub mod Whole
pub mod Frames
pub mod Lent
