pub mod Places
pub mod Counts
pub mod Majority
pub mod Least
pub mod Unfinished
pub mod Parted
pub mod Heard
