pub mod Rounding
pub mod Accepted
pub mod Steps
pub mod Answers
pub mod Answered
pub mod Lookups
pub mod Cover
