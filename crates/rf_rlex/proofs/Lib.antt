pub mod LexLemmas
