pub mod FrontLemmas
pub mod KeyLemmas
pub mod KeyOrderLemmas
pub mod OrderLemmas
pub mod TakeLemmas
pub mod TypeMarkLemmas
pub mod TypeOrderLemmas
