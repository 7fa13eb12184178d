pub mod Nodes
pub mod Saying
pub mod Finding
pub mod Joining
pub mod Gathering
