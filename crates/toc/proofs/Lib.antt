pub mod Walking
pub mod Sizing
pub mod Judging
pub mod Filling
pub mod Entering
pub mod Accepted
pub mod Columns
