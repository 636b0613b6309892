pub mod Ways
pub mod Measures
pub mod Plans
pub mod Drawn
pub mod Passing
pub mod Checks
pub mod Searching
