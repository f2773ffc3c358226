pub mod Blocks
pub mod Choices
pub mod Ranges
pub mod Examples
