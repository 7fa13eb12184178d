pub mod ExactMods
pub mod ModLemmas
pub mod ModTestLemmas
pub mod SoundMods
pub mod Steps
