pub mod Histories
pub mod Lists
