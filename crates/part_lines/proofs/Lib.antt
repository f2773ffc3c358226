pub mod TakenLines
pub mod ReadWords
