pub mod Trees
pub mod Numbers
pub mod Texts
pub mod Lines
pub mod Readings
