pub mod Marks
pub mod Picks
