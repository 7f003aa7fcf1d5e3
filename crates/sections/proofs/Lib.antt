pub mod Counts
pub mod OfKinds
pub mod Asking
pub mod Answered
