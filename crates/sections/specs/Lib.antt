pub mod Kinds
pub mod Lookups
