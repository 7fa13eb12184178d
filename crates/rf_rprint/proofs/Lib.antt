pub mod Appended
pub mod FormLemmas
