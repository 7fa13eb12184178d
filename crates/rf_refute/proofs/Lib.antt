pub mod Sound
pub mod Listing
pub mod Takings
pub mod Stackings
pub mod Leading
pub mod Roomings
