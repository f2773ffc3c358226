pub mod WiderStates
pub mod PlanMachines
pub mod Sound
pub mod Kept
pub mod PlanRounds
pub mod Plans
pub mod Worked
pub mod Missed
