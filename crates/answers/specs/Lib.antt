pub mod Readings
pub mod Ends
pub mod LayeredRuns
pub mod LayeredReads
pub mod ScriptedRuns
