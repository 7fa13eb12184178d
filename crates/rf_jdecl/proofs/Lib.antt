pub mod DeclTestLemmas
pub mod ExactCtors
pub mod ExactHeads
pub mod ExactMembers
pub mod ExactUnits
pub mod Final
pub mod Firsts
pub mod NoCalls
pub mod SoundHeads
pub mod SoundMembers
pub mod SoundUnits
mod AnswerLemmas
mod CodeLemmas
mod FrontLemmas
mod MemberLemmas
