pub mod Spelling
pub mod Scanning
pub mod Finding
