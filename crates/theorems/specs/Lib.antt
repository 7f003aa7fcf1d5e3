pub mod Refusing
pub mod Functions
pub mod Comes
