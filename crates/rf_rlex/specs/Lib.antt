pub mod Classes
pub mod Fronts
pub mod Lexed
pub mod Words
