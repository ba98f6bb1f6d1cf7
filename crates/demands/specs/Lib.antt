pub mod Broken
pub mod Refused
pub mod Paths
