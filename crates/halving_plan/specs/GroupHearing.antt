-- What a node hears of a group that has two halves, and the level state that it makes of it.
use Rattle.std.specs.Prelude.{ℕ, List, map, Option}
use Rattle.sync_types.specs.States.{State, register_at}
use Rattle.construction.specs.PhaseKing.{up}
use Rattle.construction.specs.Steps.{state_of}
use Rattle.halving_plan.specs.LevelStates.{LevelState, level_state_after}
use Rattle.halving_plan.specs.Registers.{level_state_of}
use Rattle.halving_plan.specs.Steps.{shown_in}
use Rattle.halving_plan.specs.Groups.{HalvingGroup, tree_in, left_of, right_of, sizes_of}
use Rattle.halving_plan.specs.GroupStates.{below, section}

-- the values of the group's registers
abbrev pub values_in : HalvingGroup → List State → List (Option ℕ)
values_in group heard =
    map (λ s. (register_at group.register s).a) (section group.first group.nodes heard)

-- what a state shows in a group
abbrev pub shown_by : HalvingGroup → State → ℕ
shown_by group state = shown_in (tree_in group) (below group.register state)

-- what the group's nodes show
abbrev pub outputs_in : HalvingGroup → List State → List ℕ
outputs_in group heard = map (shown_by group) (section group.first group.nodes heard)

-- the level state that a state has in a group
abbrev pub level_state_in : HalvingGroup → State → LevelState
level_state_in group state = level_state_of (below group.register state)

-- the level states of the group's nodes
abbrev pub level_states_in : HalvingGroup → List State → List LevelState
level_states_in group heard = map (level_state_in group) (section group.first group.nodes heard)

-- the new level state of node v, by what is heard of all nodes
abbrev pub level_state_heard : HalvingGroup → (v : ℕ) → List State → LevelState
level_state_heard group v heard =
    level_state_after (sizes_of group) (up group.modulus) (level_state_in group (state_of heard v))
    (outputs_in (left_of group) heard) (outputs_in (right_of group) heard)
    (level_states_in group heard)
