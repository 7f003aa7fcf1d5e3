-- Laws that several proofs cite.
pub mod Asking
pub mod Listing
pub mod Entering
pub mod Shown
pub mod Tellings
