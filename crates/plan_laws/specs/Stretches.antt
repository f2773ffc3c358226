-- The step by stretches of all that is heard: a group is named by its first node, so that nothing
-- is cut out of the list on the way down.
use Rattle.std.specs.Prelude.{◌≡◌, ℕ, ◌+◌, ◌*◌, ◌/◌, ◌%◌, ◌<◌, nat_lt, if◌then◌else◌, List, [], ◌∷◌}
use Rattle.std.specs.Prelude.{length, take, drop}
use Rattle.sync_types.specs.States.{State, zero_state}
use Rattle.construction.specs.Plans.{Level, Plan, group_size, nodes_of, plan_nodes}
use Rattle.construction.specs.PhaseKing.{up}
use Rattle.construction.specs.Steps.{state_of, new_register, with_register, step_of}

-- so many items from a place on
abbrev pub stretch : {X : Type 0} → (size start : ℕ) → List X → List X
stretch size start xs = take size (drop start xs)

-- the step of the node at a place of the group that begins at `start`
abbrev pub step_at : (base : ℕ) → List Level → (start place : ℕ) → (heard : List State) → State
step_at base [] start place heard =
    record { x = up base (state_of heard (start + place)).x; registers = [] }
step_at base (level ∷ below) start place heard =
    let n = nodes_of below in
    with_register
    (if nat_lt place (level.blocks * n)
    then step_at base below (start + place / n * n) (place % n) heard
    else zero_state (length below))
    (new_register (length below) n level place (stretch (group_size level n) start heard))

-- A step by stretches is the step.
abbrev pub StepsByStretches : Type 0
StepsByStretches =
    (plan : Plan) (v : ℕ) (heard : List State) → v < plan_nodes plan
    → length heard ≡ plan_nodes plan
    → step_of plan v heard ≡ step_at plan.base plan.levels 0 v heard
