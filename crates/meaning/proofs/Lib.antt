pub mod First
pub mod Folds
pub mod Below
pub mod Tests
pub mod Refused
pub mod Unique
