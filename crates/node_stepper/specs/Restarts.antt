-- A node that is started anew while others go on.
use Rattle.std.specs.Prelude.{◌≡◌, ◌≢◌, ℕ, ◌+◌, ◌<◌, ◌≤◌, ◌==◌, true, List}
use Rattle.std.specs.Prelude.{if◌then◌else◌}
use Rattle.sync_types.specs.States.{State}
use Rattle.construction.specs.Runs.{is_in}
use Rattle.state_codec.specs.Writing.{written}
use Rattle.machines.specs.Machines.{Machine, IsState}
use Rattle.machines.specs.Laws.{IsSound}
use Rattle.node_stepper.specs.Bytes.{StatesFit, AllFit}
use Rattle.node_stepper.specs.NodeRuns.{cell_given, IsCorrect, state_at, state_in, AreConnected}
use Rattle.node_stepper.specs.RunLaws.{Connects}

-- Where the rest of a window begins, after so many rounds of it: with the first packet of the node
-- that is started anew there.
abbrev pub begins_later : (node after : ℕ) → (begins : ℕ → ℕ) → ℕ → ℕ
begins_later node after begins v = if v == node then 0 else begins v + after

-- the faulty nodes of the whole window: those of the rest, and the node that is started anew
pub record AreFaultyMeanwhile (node : ℕ) (faulty meanwhile : List ℕ) : Type 0 where
  pub own : is_in meanwhile node ≡ true
  pub others : (v : ℕ) → v ≢ node → is_in meanwhile v ≡ is_in faulty v

-- Nodes that begin in these states, of which one is started anew after so many rounds: with it all
-- are connected in the rest of the window, and the others in the whole one. There each is given, as
-- the cell of each other one that is correct all the time, what that one writes, and as that of one
-- which is faulty in the rest too, what is sent. What is sent to the one that is started anew goes
-- on after what was sent to it before. If all that is sent fits into cells, as states do, so does
-- what is sent before the rest and in it.
pub record RestartConnects (m : Machine) (faulty meanwhile : List ℕ) (node after : ℕ)
    (starts : ℕ → State) (sent : ℕ → ℕ → ℕ → List ℕ) (begins : ℕ → ℕ) (rounds : ℕ)
    : Type 0 where
  pub sent_later : ℕ → ℕ → ℕ → List ℕ
  pub rest : Connects m faulty starts sent_later (begins_later node after begins) rounds
  pub all : AreConnected m meanwhile rest.nodes begins (after + rounds)
  pub wrote : (i v u : ℕ) → i < after + rounds → IsCorrect m meanwhile v
      → IsCorrect m meanwhile u → cell_given rest.nodes (begins v + i) v u
      ≡ written (m.fields u) (state_in m rest.nodes begins i u)
  pub given : (t v u : ℕ) → t < begins v + (after + rounds) → IsCorrect m meanwhile v
      → u < m.nodes → is_in faulty u ≡ true → cell_given rest.nodes t v u ≡ sent t v u
  pub given_anew : (i u : ℕ) → i < rounds → u < m.nodes → is_in faulty u ≡ true
      → cell_given rest.nodes i node u ≡ sent (begins node + after + i) node u
  pub fit : StatesFit m → AllFit m sent → AllFit m sent_later

-- There are such nodes, whatever states they begin in, the one that is started anew too, after
-- however many rounds, and whatever is sent.
abbrev pub AnyRestartConnects : Type 0
AnyRestartConnects = (m : Machine) → IsSound m → (faulty meanwhile : List ℕ) (node after : ℕ)
    → AreFaultyMeanwhile node faulty meanwhile → (starts : ℕ → State)
    (sent : ℕ → ℕ → ℕ → List ℕ) (begins : ℕ → ℕ) (rounds : ℕ)
    → ((v : ℕ) → IsCorrect m faulty v → IsState m v (starts v))
    → RestartConnects m faulty meanwhile node after starts sent begins rounds

-- the states in which nodes begin, if one goes on from its last state
abbrev pub starts_later : (node : ℕ) → (last : State) → (starts : ℕ → State) → ℕ → State
starts_later node last starts v = if v == node then last else starts v

-- Nodes that begin in these states and are connected for so many rounds. Then one of them is
-- started anew, in the state in which it was last, and the others go on.
pub record ResumptionConnects (m : Machine) (faulty meanwhile : List ℕ) (node after : ℕ)
    (starts : ℕ → State) (sent : ℕ → ℕ → ℕ → List ℕ) (begins : ℕ → ℕ) (rounds : ℕ)
    : Type 0 where
  pub before : Connects m faulty starts sent begins after
  pub restart : RestartConnects m faulty meanwhile node after
      (starts_later node (state_in m before.nodes begins after node) starts) sent begins rounds
  pub same : (t v u : ℕ) → t < begins v + after → IsCorrect m meanwhile v → u < m.nodes
      → cell_given restart.rest.nodes t v u ≡ cell_given before.nodes t v u
  pub same_states : (t v : ℕ) → t ≤ begins v + after → IsCorrect m meanwhile v
      → state_at m restart.rest.nodes t v ≡ state_at m before.nodes t v

-- There are such nodes, whatever states they begin in, after however many rounds, and whatever is
-- sent.
abbrev pub AnyResumptionConnects : Type 0
AnyResumptionConnects = (m : Machine) → IsSound m → (faulty meanwhile : List ℕ) (node after : ℕ)
    → AreFaultyMeanwhile node faulty meanwhile → IsCorrect m faulty node → (starts : ℕ → State)
    (sent : ℕ → ℕ → ℕ → List ℕ) (begins : ℕ → ℕ) (rounds : ℕ)
    → ((v : ℕ) → IsCorrect m faulty v → IsState m v (starts v))
    → ResumptionConnects m faulty meanwhile node after starts sent begins rounds
