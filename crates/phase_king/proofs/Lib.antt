pub mod Heard
pub mod Rounds
pub mod Slots
pub mod LockedGroups
pub mod LockedRegisters
pub mod Closed
pub mod Registers
