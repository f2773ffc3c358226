pub mod Loaded
pub mod Decisions
mod Examples
pub mod PartLines
pub mod FitInputs
pub mod SlotLengths
pub mod TrueCounts
pub mod ChangingInputs
pub mod AgreeTexts
