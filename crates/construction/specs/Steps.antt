-- The step of a node, from the states that it hears of all nodes, its own among them. The group of
-- the top level is all nodes; that of the level below is the block of it that has the node, and so
-- on.
use Rattle.std.specs.Prelude.{Option, ℕ, ◌*◌, ◌/◌, ◌%◌, nat_lt, if◌then◌else◌, List, [], ◌∷◌, ◌++◌}
use Rattle.std.specs.Prelude.{length, map, take, slice_index_or}
use Rattle.sync_types.specs.States.{State, zero_state, register_at}
use Rattle.sync_types.specs.declared.states.Reg.{Reg}
use Rattle.construction.specs.Plans.{Level, Plan, group_size, nodes_of}
use Rattle.construction.specs.Shown.{shown}
use Rattle.construction.specs.Votes.{block, beat_heard}
use Rattle.construction.specs.PhaseKing.{instructed, up}

-- the state of node v in a configuration
abbrev pub state_of : List State → ℕ → State
state_of config v = slice_index_or config v (zero_state 0)

-- A register of a level whose blocks have n nodes, after a round: from its own old one, and from
-- what its node hears of the group, the inner outputs of the blocks' nodes and the values of all
-- registers.
abbrev pub register_after : (n : ℕ) → Level → (own : Reg) → (outputs : List ℕ)
    → (values : List (Option ℕ)) → Reg
register_after n level own outputs values =
    let beat = beat_heard level n outputs in
    instructed (group_size level n) level.faults (up level.modulus) (beat % 3) own values (beat / 3)

-- The new register of the node at place v of a group of a level, which stands above l levels and
-- whose blocks have n nodes.
abbrev pub new_register : (l n : ℕ) → Level → (v : ℕ) → (group : List State) → Reg
new_register l n level v group =
    let outputs = map (shown l) (take (level.blocks * n) group) in
    let values = map (λ s. (register_at l s).a) group in
    register_after n level (register_at l (state_of group v)) outputs values

-- a state with a register after its others
abbrev pub with_register : State → Reg → State
with_register s r = record { x = s.x; registers = s.registers ++ r ∷ [] }

-- The new state of the node at place v of a group, from the states that it hears of the group's
-- nodes. A node of a block goes on in its block, by what it hears of that. A spare has no fields
-- below its level, and they stay zero.
abbrev pub step_in : (base : ℕ) → List Level → (v : ℕ) → (group : List State) → State
step_in base [] v group = record { x = up base (state_of group v).x; registers = [] }
step_in base (level ∷ below) v group =
    let n = nodes_of below in
    with_register
    (if nat_lt v (level.blocks * n) then step_in base below (v % n) (block n (v / n) group)
    else zero_state (length below))
    (new_register (length below) n level v group)

-- the new state of node v
abbrev pub step_of : Plan → (v : ℕ) → (heard : List State) → State
step_of plan v heard = step_in plan.base plan.levels v heard
