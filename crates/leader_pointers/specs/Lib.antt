pub mod Intervals
pub mod Windows
