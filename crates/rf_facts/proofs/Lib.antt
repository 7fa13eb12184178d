pub mod Banded
pub mod Chains
pub mod Indexes
pub mod Matched
pub mod Pieces
pub mod Places
pub mod Queried
pub mod Tabled
