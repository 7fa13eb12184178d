pub mod Apart
pub mod Distinct
pub mod Listing
pub mod StreamLemmas
pub mod Written
