pub mod Refusals
pub mod Bits
pub mod View
pub mod Steps
pub mod Half
pub mod Codec
pub mod Table
pub mod Extensions
