pub mod Headline
pub mod JavaFileLemmas
pub mod ListingLemmas
pub mod ReadLemmas
pub mod WholeRunLemmas
mod ApplyEnds
mod RulesEnds
