pub mod Positions
pub mod Mapped
