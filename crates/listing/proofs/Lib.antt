pub mod Putting
pub mod Showing
pub mod Columns
pub mod Walks
pub mod Texts
