pub mod Whole
pub mod Unread
pub mod NodeEnds
pub mod CheckWord
