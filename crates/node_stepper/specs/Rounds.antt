-- Nodes that say bytes to one another in rounds, by which each shows its state, however it keeps it
-- and whatever it was made of: processes over packets, calls of a library, or some of these and
-- some of those.
use Rattle.std.specs.Prelude.{◌≡◌, ◌≢◌, ℕ, ◌+◌, ◌<◌, ◌≤◌, List, map, false}
use Rattle.std.specs.List.{range_with_len}
use Rattle.sync_types.specs.States.{State}
use Rattle.construction.specs.Runs.{is_in}
use Rattle.state_codec.specs.Reading.{read}
use Rattle.machines.specs.Machines.{Machine, IsToleratedBy, IsLocked}
use Rattle.machines.specs.Laws.{IsSound}
use Rattle.node_stepper.specs.Nodes.{state_after}
use Rattle.node_stepper.specs.NodeRuns.{IsCorrect}
use Rattle.node_stepper.specs.Losses.{AreMissed}
use Rattle.node_stepper.specs.RunLaws.{RunThrough, CountThrough, StayLockedThrough}

-- the packet of what a node is given of each node
abbrev pub packet_given : Machine → (given : (u : ℕ) → List ℕ) → List (List ℕ)
packet_given m given = map given (range_with_len 0 m.nodes)

-- what the nodes say after so many rounds
module _ (m : Machine) (said : (i v : ℕ) → List ℕ) where
  -- the state of node v then
  abbrev pub state_said : (i v : ℕ) → State
  state_said i v = read (m.fields v) (said i v)

  abbrev pub states_said : (i : ℕ) → List State
  states_said i = map (state_said i) (range_with_len 0 m.nodes)

module _ (m : Machine) (faulty : List ℕ) (rounds : ℕ) (said : (i v : ℕ) → List ℕ)
    (given : (i v u : ℕ) → List ℕ) where
  -- in each round each correct node steps from what it is given of each other node
  abbrev pub StepInRounds : Type 0
  StepInRounds = (i v : ℕ) → i < rounds → IsCorrect m faulty v
      → state_said m said (i + 1) v
      ≡ state_after m v (state_said m said i v) (packet_given m (given i v))

  -- of each other correct node it is given what that one says; of faulty ones any bytes
  pub record AreInRounds : Type 0 where
    pub steps : StepInRounds
    pub told : (i v u : ℕ) → i < rounds → IsCorrect m faulty v → IsCorrect m faulty u → u ≢ v
        → given i v u ≡ said i u

  -- states are lost on the way: so of each other node that it does not miss in this round
  pub record AreInLossyRounds : Type 0 where
    pub steps : StepInRounds
    pub missed : (i v : ℕ) → List ℕ
    pub are : (i v : ℕ) → i < rounds → IsCorrect m faulty v → AreMissed m faulty v (missed i v)
    pub told : (i v u : ℕ) → i < rounds → IsCorrect m faulty v → u < m.nodes
        → is_in (missed i v) u ≡ false → u ≢ v → given i v u ≡ said i u

-- What they say are the states of a run. They count from the bound on, where they are locked, and
-- from any locked round on they stay so and count.
pub record SayRun (m : Machine) (faulty : List ℕ) (rounds : ℕ) (said : (i v : ℕ) → List ℕ)
    : Type 0 where
  pub run : RunThrough m faulty (states_said m said) rounds
  pub settles : CountThrough m faulty (states_said m said) m.bound rounds
  pub locks : m.bound ≤ rounds → IsLocked m faulty (states_said m said m.bound)
  pub stays : (from : ℕ) → from ≤ rounds → IsLocked m faulty (states_said m said from)
      → StayLockedThrough m faulty (states_said m said) from rounds

abbrev pub NodesInRoundsRun : Type 0
NodesInRoundsRun = (m : Machine) → IsSound m → (faulty : List ℕ) → IsToleratedBy m faulty
    → (rounds : ℕ) (said : (i v : ℕ) → List ℕ) (given : (i v u : ℕ) → List ℕ)
    → AreInRounds m faulty rounds said given → SayRun m faulty rounds said

-- From any locked round on they stay locked and count when states are lost.
abbrev pub NodesInRoundsStayLocked : Type 0
NodesInRoundsStayLocked = (m : Machine) → IsSound m → (faulty : List ℕ) → IsToleratedBy m faulty
    → (rounds : ℕ) (said : (i v : ℕ) → List ℕ) (given : (i v u : ℕ) → List ℕ)
    → AreInLossyRounds m faulty rounds said given → (from : ℕ) → from ≤ rounds
    → IsLocked m faulty (states_said m said from)
    → StayLockedThrough m faulty (states_said m said) from rounds
