pub mod Logging
pub mod Marks
pub mod Keeping
