pub mod Unique
pub mod Order
