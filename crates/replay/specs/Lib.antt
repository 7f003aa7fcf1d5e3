pub mod Counts
pub mod Outputs
pub mod Sums
pub mod Words
