pub mod PlanMachines
pub mod Kept
pub mod PlanRounds
pub mod NodeRuns
pub mod Laws
pub mod PlanNodes
pub mod Missed
