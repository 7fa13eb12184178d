pub mod Cuts
pub mod Turns
pub mod Weights
pub mod Queues
pub mod Wiring
