pub mod Heads
pub mod Levels
