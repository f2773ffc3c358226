pub mod Places
pub mod Own
pub mod LiesLaid
pub mod LaidBelow
pub mod Hearing
pub mod PlainSteps
