pub mod FitRequests
pub mod FiredTogether
pub mod Replicated
mod Examples
pub mod RequestTexts
