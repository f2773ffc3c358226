-- The step of a node, from the states that it hears of all nodes, its own among them.
use Rattle.std.specs.Prelude.{ℕ, ◌+◌, ◌-◌, ◌*◌, nat_lt, if◌then◌else◌, List, [], ◌++◌, length, map}
use Rattle.std.specs.Prelude.{take, drop, replicate, unwrap_or}
use Rattle.sync_types.specs.States.{State, zero_register, zero_state, register_at}
use Rattle.construction.specs.PhaseKing.{up}
use Rattle.construction.specs.Steps.{state_of}
use Rattle.halving_plan.specs.Halves.{left_period, right_period}
use Rattle.halving_plan.specs.LevelStates.{LevelState, level_state_after}
use Rattle.halving_plan.specs.Trees.{Tree, One, Split, tree_nodes, tree_height}
use Rattle.halving_plan.specs.Trees.{halves_of}
use Rattle.halving_plan.specs.Registers.{level_state_of, inner, with_level_state}

-- what a state shows in a tree: its number, or the value of the first register, 0 if that is
-- infinite
abbrev pub shown_in : Tree → State → ℕ
shown_in One state = state.x
shown_in (Split left right spares) state = unwrap_or (register_at 0 state).a 0

-- the nodes of a half that begins so far from the group's first one, as states in the half
abbrev pub half_of : (first nodes : ℕ) → (group : List State) → List State
half_of first nodes group = take nodes (drop first (map inner group))

-- the new level state of the node at place v of a group of two halves
abbrev pub new_level_state : (left right : Tree) (spares modulus v : ℕ) (group : List State)
    → LevelState
new_level_state left right spares modulus v group =
    let n = tree_nodes left in
    level_state_after (halves_of left right spares) (up modulus) (level_state_of (state_of group v))
    (map (shown_in left) (half_of 0 n group))
    (map (shown_in right) (half_of n (tree_nodes right) group))
    (map level_state_of group)

-- The new state of the node at place v of a group that counts by the modulus, from the states that
-- it hears of the group's nodes. A node of a half goes on in its half, by what it hears of that; a
-- spare is in none. The left half counts modulo one period, the right half modulo the other.
abbrev pub step_in : (tree : Tree) (modulus v : ℕ) (group : List State) → State
step_in One modulus v group = record { x = up modulus (state_of group v).x; registers = [] }
step_in (Split left right spares) modulus v group =
    let halves = halves_of left right spares in
    let n = tree_nodes left in
    let m = tree_nodes right in
    with_level_state (new_level_state left right spares modulus v group)
    (if nat_lt v n then step_in left (left_period halves) v (half_of 0 n group)
    else if nat_lt v (n + m) then step_in right (right_period halves) (v - n) (half_of n m group)
    else zero_state 0)

-- a state followed by zero registers, up to so many in all
abbrev pub filled : (depth : ℕ) → State → State
filled depth state = record {
  x = state.x;
  registers = state.registers ++ replicate (depth - length state.registers) zero_register;
}

-- how many registers a state has
abbrev pub tree_depth : Tree → ℕ
tree_depth tree = 2 * tree_height tree

-- the new state of node v; the registers that it lacks are zero
abbrev pub step_of : (tree : Tree) (modulus v : ℕ) (heard : List State) → State
step_of tree modulus v heard = filled (tree_depth tree) (step_in tree modulus v heard)
