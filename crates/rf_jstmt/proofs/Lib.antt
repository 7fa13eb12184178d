pub mod BlockLemmas
pub mod Declares
pub mod Dispatch
pub mod EndLemmas
pub mod Exact
pub mod ExactForms
pub mod ExactLists
pub mod ExactParts
pub mod ExactVars
pub mod LocalLemmas
pub mod Over
pub mod SoundForms
pub mod SoundLists
pub mod SoundParts
pub mod SoundStmts
pub mod SoundVars
pub mod StmtFirst
pub mod TestLemmas
mod FrontLemmas
pub mod HeadLemmas
mod BlockAnswers
mod ListShows
mod StmtRooms
pub mod WholeForms
