pub mod Holders
pub mod FitLines
pub mod SlotTexts
pub mod HoldWords
