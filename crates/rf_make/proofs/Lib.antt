pub mod Indexing
pub mod Leaving
pub mod Deriving
pub mod Walking
