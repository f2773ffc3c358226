pub mod Hearing
pub mod Repeats
