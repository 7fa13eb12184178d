pub mod ScanLemmas
pub mod PieceLemmas
pub mod FieldLemmas
pub mod ClassLemmas
pub mod RequestLemmas
pub mod FieldNameLemmas
pub mod FormLemmas
pub mod AnswerLemmas
