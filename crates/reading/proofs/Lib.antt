mod Reading
pub mod Unique
