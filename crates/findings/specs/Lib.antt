pub mod Walks
pub mod Found
