pub mod CalledLemmas
pub mod FormLemmas
pub mod ListShows
