-- When every group is settled.
use Rattle.std.specs.Prelude.{◌≡◌, ℕ, ◌+◌, ◌<◌, ◌≤◌, List, All}
use Rattle.sync_types.specs.FaultSets.{is_in}
use Rattle.sync_types.specs.States.{State, register_at}
use Rattle.construction.specs.PhaseKing.{locked_at}
use Rattle.construction.specs.Plans.{Plan}
use Rattle.construction.specs.Steps.{state_of}
use Rattle.phase_king.specs.Groups.{IsLockedGroup}
use Rattle.shared_board.specs.Groups.{Group, groups_of, nodes_in}

-- the group is locked, and so are the registers of its liars, at the same value
pub record IsSettledGroup (faulty : List ℕ) (states : List State) (group : Group) : Type 0 where
  pub value : ℕ
  pub locked : IsLockedGroup group.first (nodes_in group) group.level.faults (is_in faulty)
      (λ u. register_at group.below (state_of states u)) value
  pub liars_too : (u : ℕ) → group.first ≤ u → u < group.first + nodes_in group
      → register_at group.below (state_of states u) ≡ locked_at value

-- so it is with each group of the plan
abbrev pub IsSettled : Plan → (faulty : List ℕ) → (states : List State) → Type 0
IsSettled plan faulty states = All (IsSettledGroup faulty states) (groups_of plan.levels 0)
