pub mod Calls
pub mod Fault
pub mod MemFiles
pub mod Memory
pub mod RealPaths
pub mod World
