pub mod Lexical
pub mod Starts
pub mod Complete
pub mod Sound
pub mod Tests
pub mod Head
pub mod LiveLines
pub mod Live
pub mod Whole
pub mod Good
pub mod VerdictStands
pub mod Verdicts
pub mod Answers
pub mod StatedRuns
pub mod EraBegins
pub mod PlayedStates
pub mod RecordedTellings
pub mod RecordedTrue
pub mod RecordedIs
pub mod RecordedLock
pub mod RecordedLines
pub mod RecordedWhole
mod Examples
pub mod TrueRows
pub mod TrueLocks
pub mod RecordedRuns
mod Attributed
mod BodyKept
mod BodySteps
mod Decoded
mod EraFound
mod LevelLines
mod LineTexts
mod LinesRead
mod MoreRoom
mod NextIds
mod NextLies
mod PendingTexts
mod Ranges
mod RecordTexts
mod Recording
mod Rooms
mod RoundSteps
mod RowWords
mod RunnerTexts
mod ShortTexts
mod SourceReads
mod StatesRead
mod ToldPlaces
mod TrueTexts
mod Unlimited
