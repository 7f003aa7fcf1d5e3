pub mod Sizes
pub mod Measured
pub mod Groups
