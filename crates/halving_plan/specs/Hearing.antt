-- How the level states of a group go from one configuration to the next, if each node hears lists
-- of its own. Outputs, which the halves' nodes alone have, and level states are given by place.
use Rattle.std.specs.Prelude.{◌≡◌, ℕ, ◌+◌, ◌<◌, ◌≤◌, List, length, Bool, false, slice_index}
use Rattle.std.specs.Prelude.{slice_index_or}
use Rattle.halving_plan.specs.Halves.{Halves}
use Rattle.halving_plan.specs.LevelStates.{LevelState, zero_level_state, level_state_after}

-- what is heard of the outputs of so many nodes from the first on: the true one of each correct
-- node, and anything of a faulty one
pub record HearsOutputs (first nodes : ℕ) (faulty : ℕ → Bool) (outputs : ℕ → ℕ)
    (heard : List ℕ) : Type 0 where
  pub size : length heard ≡ nodes
  pub honest : (u : ℕ) → u < nodes → faulty (first + u) ≡ false
      → slice_index heard u ≡ outputs (first + u)

-- what is heard of the level states of all nodes
pub record HearsLevelStates (nodes : ℕ) (faulty : ℕ → Bool) (states : ℕ → LevelState)
    (heard : List LevelState) : Type 0 where
  pub size : length heard ≡ nodes
  pub honest : (u : ℕ) → u < nodes → faulty u ≡ false
      → slice_index_or heard u zero_level_state ≡ states u

-- what a node hears in a round
pub record Heard : Type 0 where
  pub left : List ℕ
  pub right : List ℕ
  pub states : List LevelState

-- the left half's nodes come first, and then the right half's
pub record Hears (halves : Halves) (faulty : ℕ → Bool) (outputs : ℕ → ℕ) (states : ℕ → LevelState)
    (heard : Heard) : Type 0 where
  pub left : HearsOutputs 0 halves.left_nodes faulty outputs heard.left
  pub right : HearsOutputs halves.left_nodes halves.right_nodes faulty outputs heard.right
  pub group : HearsLevelStates halves.nodes faulty states heard.states

-- a node's level state steps
pub record StepsLevelState (halves : Halves) (next : ℕ → ℕ) (faulty : ℕ → Bool) (outputs : ℕ → ℕ)
    (old : ℕ → LevelState) (own new : LevelState) : Type 0 where
  pub heard : Heard
  pub hears : Hears halves faulty outputs old heard
  pub step : new ≡ level_state_after halves next own heard.left heard.right heard.states

-- From configuration t on, to the last one, the level state of each correct node steps. Outputs and
-- level states are given by configuration and place.
abbrev pub LevelStatesStep : (halves : Halves) (next : ℕ → ℕ) (faulty : ℕ → Bool) (t last : ℕ)
    (outputs : ℕ → ℕ → ℕ) (states : ℕ → ℕ → LevelState) → Type 0
LevelStatesStep halves next faulty t last outputs states = (r v : ℕ) → t ≤ r → r < last
    → v < halves.nodes → faulty v ≡ false
    → StepsLevelState halves next faulty (outputs r) (states r) (states r v) (states (r + 1) v)
