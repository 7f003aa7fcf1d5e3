pub mod Walks
pub mod Known
pub mod Bundles
pub mod Canvas
pub mod Whole
pub mod Columns
pub mod AllDefault
pub mod Entering
