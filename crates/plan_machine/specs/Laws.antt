-- The laws of connected nodes of a plan.
use Rattle.std.specs.Prelude.{◌≡◌, ℕ, ◌+◌, ◌%◌, ◌<◌, ◌≤◌, List, length, true, ◌⊎◌}
use Rattle.sync_types.specs.States.{State}
use Rattle.construction.specs.Plans.{Plan, plan_nodes, plan_bound, plan_modulus}
use Rattle.construction.specs.Steps.{state_of}
use Rattle.construction.specs.Runs.{is_in, IsState, configuration, Run, AllShow, IsToleratedBy}
use Rattle.construction.specs.Runs.{IsLocked}
use Rattle.plan_numbers.specs.Premises.{IsAccepted}
use Rattle.state_codec.specs.Writing.{written}
use Rattle.node_stepper.specs.Laws.{AreFull}
use Rattle.plan_machine.specs.NodeRuns.{Nodes, cell_given, IsCorrect, SomeIsCorrect, state_in}
use Rattle.plan_machine.specs.NodeRuns.{fields_of, states_in, AreConnected, AreHeard}

-- of the configurations of a window, by the number of rounds before them
module _ (plan : Plan) (faulty : List ℕ) (at : ℕ → List State) where
  -- to the last one the correct nodes are in the states of a run
  pub record RunThrough (rounds : ℕ) : Type 0 where
    pub run : List (List State)
    pub is : Run plan faulty run
    pub long : length run ≡ rounds + 1
    pub states : (i v : ℕ) → i ≤ rounds → IsCorrect plan faulty v
        → state_of (configuration run i) v ≡ state_of (at i) v

  -- from one on all correct nodes show one number, which grows by one modulo C
  pub record CountThrough (from rounds : ℕ) : Type 0 where
    pub output : ℕ → ℕ
    pub shows : (i : ℕ) → from ≤ i → i ≤ rounds → AllShow plan faulty (at i) (output i)
    pub grows : (i : ℕ) → from ≤ i → i < rounds
        → output (i + 1) ≡ (output i + 1) % plan_modulus plan

  -- each is locked, and they count
  pub record StayLockedThrough (from rounds : ℕ) : Type 0 where
    pub locked : (i : ℕ) → from ≤ i → i ≤ rounds → IsLocked plan faulty (at i)
    pub counts : CountThrough from rounds

-- Connected nodes that begin in these states and are given these bytes: in packet t node v is given
-- `sent t v u` as the cell of a faulty node u, and before the window of each node u. As the cell of
-- a correct node it is given what that one writes after as many rounds. Each has exactly so many
-- packets, with a cell of each node.
pub record Connects (plan : Plan) (faulty : List ℕ) (starts : ℕ → State)
    (sent : ℕ → ℕ → ℕ → List ℕ) (begins : ℕ → ℕ) (rounds : ℕ) : Type 0 where
  pub nodes : Nodes
  pub begin : nodes.starts ≡ starts
  pub are : AreConnected plan faulty nodes begins rounds
  pub long : (v : ℕ) → length (nodes.packets v) ≡ begins v + rounds
  pub full : (v : ℕ) → AreFull (plan_nodes plan) (nodes.packets v)
  pub given : (t v u : ℕ) → t < begins v + rounds → u < plan_nodes plan
      → (t < begins v) ⊎ (is_in faulty u ≡ true) → cell_given nodes t v u ≡ sent t v u
  pub wrote : (i v u : ℕ) → i < rounds → IsCorrect plan faulty u
      → cell_given nodes (begins v + i) v u
      ≡ written (fields_of plan u) (state_in plan nodes begins i u)

-- There are such nodes, whatever states of theirs the correct ones begin in, wherever in each of
-- them the window begins, and whatever is sent.
abbrev pub AnyLiesConnect : Type 0
AnyLiesConnect = (plan : Plan) → IsAccepted plan → (faulty : List ℕ) (starts : ℕ → State)
    (sent : ℕ → ℕ → ℕ → List ℕ) (begins : ℕ → ℕ) (rounds : ℕ)
    → ((v : ℕ) → IsCorrect plan faulty v → IsState plan v (starts v))
    → Connects plan faulty starts sent begins rounds

-- Faulty nodes that an accepted plan tolerates leave a correct one.
abbrev pub BorneLeavesSome : Type 0
BorneLeavesSome = (plan : Plan) → IsAccepted plan → (faulty : List ℕ) → IsToleratedBy plan faulty
    → SomeIsCorrect plan faulty

-- Connected nodes of an accepted plan are a run of it.
abbrev pub NodesRun : Type 0
NodesRun = (plan : Plan) → IsAccepted plan → (faulty : List ℕ) (nodes : Nodes) (begins : ℕ → ℕ)
    (rounds : ℕ) → AreConnected plan faulty nodes begins rounds
    → RunThrough plan faulty (states_in plan nodes begins) rounds

-- As many rounds later as the bound says, they count.
abbrev pub NodesSettle : Type 0
NodesSettle = (plan : Plan) → IsAccepted plan → (faulty : List ℕ) → IsToleratedBy plan faulty
    → (nodes : Nodes) (begins : ℕ → ℕ) (rounds : ℕ) → AreConnected plan faulty nodes begins rounds
    → CountThrough plan faulty (states_in plan nodes begins) (plan_bound plan)
    rounds

-- There they are locked.
abbrev pub NodesLock : Type 0
NodesLock = (plan : Plan) → IsAccepted plan → (faulty : List ℕ) → IsToleratedBy plan faulty
    → (nodes : Nodes) (begins : ℕ → ℕ) (rounds : ℕ) → AreConnected plan faulty nodes begins rounds
    → plan_bound plan ≤ rounds
    → IsLocked plan faulty (states_in plan nodes begins (plan_bound plan))

-- Once they are locked, they stay so, and count, whatever cells of faulty nodes follow.
abbrev pub NodesStayLocked : Type 0
NodesStayLocked = (plan : Plan) → IsAccepted plan → (faulty : List ℕ) → IsToleratedBy plan faulty
    → (nodes : Nodes) (begins : ℕ → ℕ) (rounds : ℕ) → AreConnected plan faulty nodes begins rounds
    → (from : ℕ) → from ≤ rounds → IsLocked plan faulty (states_in plan nodes begins from)
    → StayLockedThrough plan faulty (states_in plan nodes begins) from rounds

-- So they do when states are lost, as long as each correct node hears those of N - F correct nodes
-- in each round, itself among them.
abbrev pub HeardNodesStayLocked : Type 0
HeardNodesStayLocked = (plan : Plan) → IsAccepted plan → (faulty : List ℕ)
    → IsToleratedBy plan faulty
    → (nodes : Nodes) (begins : ℕ → ℕ) (rounds : ℕ) → AreHeard plan faulty nodes begins rounds
    → (from : ℕ) → from ≤ rounds → IsLocked plan faulty (states_in plan nodes begins from)
    → StayLockedThrough plan faulty (states_in plan nodes begins) from rounds
