pub mod Line
pub mod Job
pub mod Private
