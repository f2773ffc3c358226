pub mod FirePart
pub mod Firings
pub mod FiringsSeen
pub mod FireLaws
pub mod FireAnswers
pub mod RequestTexts
