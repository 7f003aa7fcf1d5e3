pub mod Masks
pub mod Numbers
