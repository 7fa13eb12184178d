pub mod Runnings
pub mod Writings
pub mod Searchings
pub mod Standings
pub mod Widths
pub mod Valuings
pub mod Rounds
