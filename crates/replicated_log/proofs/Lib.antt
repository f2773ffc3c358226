pub mod FitLogs
pub mod Newest
pub mod Logging
pub mod SlotEntries
pub mod SameLogs
pub mod ChangingCommands
pub mod Replicated
mod Examples
pub mod EntryLengths
pub mod Turns
pub mod LogTexts
