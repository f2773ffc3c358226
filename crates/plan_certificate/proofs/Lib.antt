mod LevelLines
mod NamedNumbers
pub mod ReadTables
pub mod WrittenTables
mod StatedTables
mod TableEnds
mod TableWords
mod TopLevels
