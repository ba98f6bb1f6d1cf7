pub mod Paths
pub mod Single
pub mod Work
