pub mod Signed
pub mod Long
pub mod Half
