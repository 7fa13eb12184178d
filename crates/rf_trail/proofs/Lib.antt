pub mod Ranges
pub mod Words
pub mod Removing
pub mod Rows
pub mod Steps
pub mod Filling
