pub mod Codes
pub mod FaultSets
pub mod States
