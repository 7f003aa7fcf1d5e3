pub mod Put
pub mod Text
pub mod Listed
pub mod Private
