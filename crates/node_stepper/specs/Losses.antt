-- Rounds in which states are lost on the way: each node hears of all but a few nodes in which state
-- they are, and of those few, which are others for each node and round, anything.
use Rattle.std.specs.Prelude.{◌≡◌, ◌≢◌, ℕ, ◌+◌, ◌<◌, ◌≤◌, List, length, All, true, false}
use Rattle.sync_types.specs.States.{State}
use Rattle.construction.specs.Steps.{state_of}
use Rattle.construction.specs.Runs.{is_in, configuration}
use Rattle.state_codec.specs.Reading.{read}
use Rattle.machines.specs.Machines.{Machine, IsState, IsConfiguration, IsToleratedBy, IsLocked}
use Rattle.machines.specs.Laws.{IsSound, StaysLockedFrom}
use Rattle.node_stepper.specs.NodeRuns.{Nodes, cell_given, IsCorrect, state_in}

-- The nodes whose states node v does not hear in a round: faulty ones, which may lie to it, and
-- those whose states are lost to it. Together they are at most F, and v itself is not one of them.
pub record AreMissed (m : Machine) (faulty : List ℕ) (v : ℕ) (missed : List ℕ) : Type 0 where
  pub few : IsToleratedBy m missed
  pub faulty_too : (u : ℕ) → is_in faulty u ≡ true → is_in missed u ≡ true
  pub not_own : is_in missed v ≡ false

-- what a node hears that misses these nodes: of all others the true states
pub record HearsOthers (m : Machine) (missed : List ℕ) (old heard : List State) : Type 0 where
  pub size : length heard ≡ m.nodes
  pub states : (u : ℕ) → u < m.nodes → IsState m u (state_of heard u)
  pub truth : (u : ℕ) → u < m.nodes → is_in missed u ≡ false → state_of heard u ≡ state_of old u

module _ (m : Machine) (faulty : List ℕ) where
  -- the step of node v from what it hears, missing a few nodes
  pub record LossyStep (v : ℕ) (old : List State) (new : State) : Type 0 where
    pub missed : List ℕ
    pub are : AreMissed m faulty v missed
    pub heard : List State
    pub hears : HearsOthers m missed old heard
    pub step : new ≡ m.step v heard

  -- configurations between which each correct node makes such a step
  pub record LossyRun (run : List (List State)) : Type 0 where
    pub configurations : All (IsConfiguration m) run
    pub rounds : (t v : ℕ) → t + 1 < length run → IsCorrect m faulty v
        → LossyStep v (configuration run t) (state_of (configuration run (t + 1)) v)

-- From any locked configuration on, the correct nodes stay locked and count, as long as each of
-- them hears, in each round, the true states of N - F correct nodes, itself among them.
abbrev pub LossesKeepLocked : Type 0
LossesKeepLocked = (m : Machine) → IsSound m → (faulty : List ℕ) → IsToleratedBy m faulty
    → (run : List (List State)) → LossyRun m faulty run → (from : ℕ) → from < length run
    → IsLocked m faulty (configuration run from) → StaysLockedFrom m faulty run from

-- Nodes over packets, some of which are lost: in each round of the window each correct node is
-- given, of each other node that it does not miss then, a cell that is read as the state of that
-- one after as many rounds. All other cells are any bytes.
pub record AreHeard (m : Machine) (faulty : List ℕ) (nodes : Nodes) (begins : ℕ → ℕ)
    (rounds : ℕ) : Type 0 where
  pub starts : (v : ℕ) → IsCorrect m faulty v → IsState m v (nodes.starts v)
  pub enough : (v : ℕ) → IsCorrect m faulty v → begins v + rounds ≤ length (nodes.packets v)
  pub missed : (i v : ℕ) → List ℕ
  pub are : (i v : ℕ) → i < rounds → IsCorrect m faulty v → AreMissed m faulty v (missed i v)
  pub cells : (i v u : ℕ) → i < rounds → IsCorrect m faulty v → u < m.nodes
      → is_in (missed i v) u ≡ false → u ≢ v
      → read (m.fields u) (cell_given nodes (begins v + i) v u) ≡ state_in m nodes begins i u
