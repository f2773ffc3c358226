-- A state that has all registers of a group has those of its halves.
use Rattle.std.proofs.Common.{◌+◌, ◌<◌, ◌≤◌, length, arith}
use Rattle.sync_types.specs.States.{State}
use Rattle.halving_plan.specs.Groups.{HalvingGroup, left_of, right_of}
use Rattle.halving_plan.proofs.Fitting.{two_before_end, left_end, right_end}
use Rattle.halving_plan.specs.GroupStates.{HasGroup}

pub two_deep : (group : HalvingGroup) (s : State) → 0 < group.faults → HasGroup group s
    → group.register + 2 ≤ length s.registers
two_deep group s some deep = omega (arith, two_before_end group some, deep)

pub left_deep : (group : HalvingGroup) (s : State) → 0 < group.faults → HasGroup group s
    → HasGroup (left_of group) s
left_deep group s some deep = omega (arith, left_end group some, deep)

pub right_deep : (group : HalvingGroup) (s : State) → 0 < group.faults → HasGroup group s
    → HasGroup (right_of group) s
right_deep group s some deep = omega (arith, right_end group some, deep)
