pub mod Answers
pub mod Writes
pub mod Ended
pub mod Stands
