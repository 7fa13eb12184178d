pub mod ExprFirstLemmas
pub mod EachLemmas
