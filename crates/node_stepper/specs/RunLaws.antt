-- The laws of connected nodes.
use Rattle.std.specs.Prelude.{◌≡◌, ℕ, ◌+◌, ◌%◌, ◌<◌, ◌≤◌, List, length, true, ◌⊎◌}
use Rattle.sync_types.specs.States.{State}
use Rattle.construction.specs.Steps.{state_of}
use Rattle.construction.specs.Runs.{is_in, configuration}
use Rattle.state_codec.specs.Writing.{written}
use Rattle.machines.specs.Machines.{Machine, IsState, Run, AllShow, IsToleratedBy, IsLocked}
use Rattle.machines.specs.Laws.{IsSound}
use Rattle.node_stepper.specs.Laws.{AreFull}
use Rattle.node_stepper.specs.NodeRuns.{Nodes, cell_given, IsCorrect, SomeIsCorrect, state_in}
use Rattle.node_stepper.specs.NodeRuns.{states_in, AreConnected}
use Rattle.node_stepper.specs.Losses.{AreHeard}

-- of the configurations of a window, by the number of rounds before them
module _ (m : Machine) (faulty : List ℕ) (at : ℕ → List State) where
  -- to the last one the correct nodes are in the states of a run
  pub record RunThrough (rounds : ℕ) : Type 0 where
    pub run : List (List State)
    pub is : Run m faulty run
    pub long : length run ≡ rounds + 1
    pub states : (i v : ℕ) → i ≤ rounds → IsCorrect m faulty v
        → state_of (configuration run i) v ≡ state_of (at i) v

  -- from one on all correct nodes show one number, which grows by one modulo C
  pub record CountThrough (from rounds : ℕ) : Type 0 where
    pub output : ℕ → ℕ
    pub shows : (i : ℕ) → from ≤ i → i ≤ rounds → AllShow m faulty (at i) (output i)
    pub grows : (i : ℕ) → from ≤ i → i < rounds
        → output (i + 1) ≡ (output i + 1) % m.modulus

  -- each is locked, and they count
  pub record StayLockedThrough (from rounds : ℕ) : Type 0 where
    pub locked : (i : ℕ) → from ≤ i → i ≤ rounds → IsLocked m faulty (at i)
    pub counts : CountThrough from rounds

-- Connected nodes that begin in these states and are given these bytes: in packet t node v is given
-- `sent t v u` as the cell of a faulty node u, and before the window of each node u. As the cell of
-- a correct node it is given what that one writes after as many rounds. Each has exactly so many
-- packets, with a cell of each node.
pub record Connects (m : Machine) (faulty : List ℕ) (starts : ℕ → State)
    (sent : ℕ → ℕ → ℕ → List ℕ) (begins : ℕ → ℕ) (rounds : ℕ) : Type 0 where
  pub nodes : Nodes
  pub begin : nodes.starts ≡ starts
  pub are : AreConnected m faulty nodes begins rounds
  pub long : (v : ℕ) → length (nodes.packets v) ≡ begins v + rounds
  pub full : (v : ℕ) → AreFull m.nodes (nodes.packets v)
  pub given : (t v u : ℕ) → t < begins v + rounds → u < m.nodes
      → (t < begins v) ⊎ (is_in faulty u ≡ true) → cell_given nodes t v u ≡ sent t v u
  pub wrote : (i v u : ℕ) → i < rounds → IsCorrect m faulty u
      → cell_given nodes (begins v + i) v u ≡ written (m.fields u) (state_in m nodes begins i u)

-- There are such nodes, whatever states of theirs the correct ones begin in, wherever in each of
-- them the window begins, and whatever is sent.
abbrev pub AnyLiesConnect : Type 0
AnyLiesConnect = (m : Machine) → IsSound m → (faulty : List ℕ) (starts : ℕ → State)
    (sent : ℕ → ℕ → ℕ → List ℕ) (begins : ℕ → ℕ) (rounds : ℕ)
    → ((v : ℕ) → IsCorrect m faulty v → IsState m v (starts v))
    → Connects m faulty starts sent begins rounds

-- Faulty nodes that a sound machine tolerates leave a correct one.
abbrev pub BorneLeavesSome : Type 0
BorneLeavesSome = (m : Machine) → IsSound m → (faulty : List ℕ) → IsToleratedBy m faulty
    → SomeIsCorrect m faulty

-- Connected nodes of a sound machine are a run of it.
abbrev pub NodesRun : Type 0
NodesRun = (m : Machine) → IsSound m → (faulty : List ℕ) (nodes : Nodes) (begins : ℕ → ℕ)
    (rounds : ℕ) → AreConnected m faulty nodes begins rounds
    → RunThrough m faulty (states_in m nodes begins) rounds

-- As many rounds later as the bound says, they count.
abbrev pub NodesSettle : Type 0
NodesSettle = (m : Machine) → IsSound m → (faulty : List ℕ) → IsToleratedBy m faulty
    → (nodes : Nodes) (begins : ℕ → ℕ) (rounds : ℕ) → AreConnected m faulty nodes begins rounds
    → CountThrough m faulty (states_in m nodes begins) m.bound rounds

-- There they are locked.
abbrev pub NodesLock : Type 0
NodesLock = (m : Machine) → IsSound m → (faulty : List ℕ) → IsToleratedBy m faulty
    → (nodes : Nodes) (begins : ℕ → ℕ) (rounds : ℕ) → AreConnected m faulty nodes begins rounds
    → m.bound ≤ rounds → IsLocked m faulty (states_in m nodes begins m.bound)

-- Once they are locked, they stay so, and count, whatever cells of faulty nodes follow.
abbrev pub NodesStayLocked : Type 0
NodesStayLocked = (m : Machine) → IsSound m → (faulty : List ℕ) → IsToleratedBy m faulty
    → (nodes : Nodes) (begins : ℕ → ℕ) (rounds : ℕ) → AreConnected m faulty nodes begins rounds
    → (from : ℕ) → from ≤ rounds → IsLocked m faulty (states_in m nodes begins from)
    → StayLockedThrough m faulty (states_in m nodes begins) from rounds

-- So they do when states are lost, as long as each correct node hears those of N - F correct nodes
-- in each round, itself among them.
abbrev pub HeardNodesStayLocked : Type 0
HeardNodesStayLocked = (m : Machine) → IsSound m → (faulty : List ℕ) → IsToleratedBy m faulty
    → (nodes : Nodes) (begins : ℕ → ℕ) (rounds : ℕ) → AreHeard m faulty nodes begins rounds
    → (from : ℕ) → from ≤ rounds → IsLocked m faulty (states_in m nodes begins from)
    → StayLockedThrough m faulty (states_in m nodes begins) from rounds
