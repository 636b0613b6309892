pub mod Twos
pub mod Columns
