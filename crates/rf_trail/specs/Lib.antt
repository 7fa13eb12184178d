pub mod Bits
pub mod Removals
pub mod Trails
