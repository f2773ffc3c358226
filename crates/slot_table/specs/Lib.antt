pub mod Tables
pub mod HoldLaws
pub mod SlotPart
pub mod SlotAnswers
pub mod SlotTexts
pub mod HoldWords
