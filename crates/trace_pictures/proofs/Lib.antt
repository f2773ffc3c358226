pub mod TraceLines
pub mod Hearing
pub mod TurnsApart
