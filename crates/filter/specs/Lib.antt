pub mod Values
pub mod Weights
pub mod Gabor
pub mod Epf
pub mod Filter
pub mod Private
