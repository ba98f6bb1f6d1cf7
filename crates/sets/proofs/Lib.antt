pub mod Defaults
pub mod Laws
pub mod Equal
pub mod Nodes
pub mod Unique
