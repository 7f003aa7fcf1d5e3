pub mod Sizes
pub mod Reading
pub mod Private
