pub mod Three
pub mod Once
