mod NamedNodes
mod HalvingTraced
mod Traced
pub mod Around
pub mod Counts
pub mod GroupDescent
pub mod HalvingHearing
pub mod HalvingNodesTraced
pub mod GroupRegisters
pub mod WordsSoFar
pub mod Hearing
pub mod LevelDescent
pub mod BoostingTraced
pub mod LockWords
pub mod TextParts
pub mod LocksTold
pub mod HalvingLocksTold
pub mod WorkedTraces
