pub mod ListsAndPlaces
pub mod StateLists
pub mod ClearedRegisters
pub mod Layers
pub mod Quorum
pub mod Heeded
