pub mod ScriptedRead
pub mod LayeredRead
pub mod ExplainTexts
