pub mod Bodies
pub mod Lowered
pub mod Alike
pub mod Gathered
