pub mod Counters
pub mod ReadOver
pub mod Runners
pub mod Rooms
pub mod Kept
pub mod Bare
