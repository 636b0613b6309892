pub mod Causes
pub mod Edits
pub mod States
