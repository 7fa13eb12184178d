mod AnswerLemmas
mod CreationLemmas
pub mod CursorLemmas
mod FormLemmas
pub mod GrowthLemmas
mod LongestLemmas
pub mod RoomLemmas
pub mod TurnLemmas
pub mod Bounded
pub mod CallNames
pub mod NoTypeLemmas
pub mod CompleteBinary
pub mod CompleteCast
pub mod CompleteFirst
pub mod CompleteNames
pub mod CompleteParts
pub mod CompletePrimary
pub mod CompleteRooms
pub mod CompleteTop
pub mod CompleteUnary
pub mod Final
pub mod First
pub mod LoopLemmas
pub mod Sound
pub mod SoundNames
pub mod SoundParts
pub mod SoundPrimary
pub mod Standing
pub mod StopLemmas
pub mod Tools
pub mod Within
