pub mod Bits
pub mod Laws
pub mod Unique
