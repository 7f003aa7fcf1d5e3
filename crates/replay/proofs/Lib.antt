pub mod Floats
pub mod Gaining
pub mod Walks
