pub mod Asked
pub mod Lines
pub mod Reports
