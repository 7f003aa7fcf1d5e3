pub mod Order
pub mod Tables
pub mod Sums
pub mod Numbers
pub mod Private
