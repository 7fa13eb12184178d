pub mod Tuples
pub mod Bands
pub mod Columns
pub mod Queries
pub mod Rows
pub mod Tables
