pub mod CutLemmas
pub mod Quiets
pub mod Wires
pub mod Fillings
