pub mod Members
pub mod Tables
pub mod Steps
pub mod Runs
pub mod Courses
pub mod Counts
