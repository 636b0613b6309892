pub mod Format
pub mod Causes
pub mod Rules
pub mod Layout
pub mod Seen
pub mod Writing
pub mod Inner
