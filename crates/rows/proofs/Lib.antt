pub mod Blanks
pub mod Changes
pub mod Meaning
