pub mod Digits
pub mod Lines
pub mod Behind
pub mod Fronts
pub mod Wholes
pub mod Loops
pub mod Endings
