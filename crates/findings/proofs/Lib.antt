pub mod Walks
pub mod Rooms
pub mod Bodies
pub mod Checks
pub mod Unique
