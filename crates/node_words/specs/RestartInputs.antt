-- Inputs of calls, of which one is started anew while others go on.
use Rattle.std.specs.Prelude.{◌≡◌, ℕ, ◌+◌, ◌<◌, ◌≤◌, true, List, Ok}
use Rattle.sync_types.specs.States.{State}
use Rattle.construction.specs.Runs.{is_in}
use Rattle.machines.specs.Machines.{Machine, IsState}
use Rattle.node_stepper.specs.Bytes.{AreBytes, AllFit}
use Rattle.node_stepper.specs.NodeRuns.{IsCorrect}
use Rattle.node_stepper.specs.Packets.{most_packets}
use Rattle.node_words.specs.Constructions.{Words}
use Rattle.node_words.specs.NodeAnswers.{node_outcome}
use Rattle.node_words.specs.Calls.{Call, whole, cell_heard}
use Rattle.node_words.specs.CallWindows.{CallsConnect}
use Rattle.node_words.specs.Restarts.{Restart, calls_after, begins_after, AreFaultyMeanwhile}
use Rattle.node_words.specs.Inputs.{AreOneMachine, BeginIn}

-- the calls of inputs
abbrev pub calls_of : (inputs : ℕ → List ℕ) → ℕ → Call
calls_of inputs v = whole (inputs v)

-- a node that is started anew with this input
abbrev pub restart_with : (node after : ℕ) → (input : List ℕ) → Restart
restart_with node after input = record { node = node; after = after; call = whole input }

-- the same if it is the node's own input
abbrev pub restart_of : (inputs : ℕ → List ℕ) → (node after : ℕ) → Restart
restart_of inputs node after = restart_with node after (inputs node)

module _ {Reader Plan Premise : Type 0} (words : Words Reader Plan Premise) (lines : Plan → ℕ) where
  -- Inputs whose nodes begin in these states. All but one node are connected in the whole window,
  -- and with it in the rest, which begins with its first packet. As the cell of a node that is
  -- faulty in the rest too each other one is given what is sent, and the one that is started anew
  -- what is sent to it after as many rounds. Each input ends with its window. The inputs are bytes,
  -- if what is sent fits into cells.
  pub record InputsRestart (m : Machine) (plans : ℕ → Plan) (faulty meanwhile : List ℕ)
      (node after : ℕ) (starts : ℕ → State) (sent : ℕ → ℕ → ℕ → List ℕ) (begins : ℕ → ℕ)
      (rounds : ℕ) : Type 0 where
    pub inputs : ℕ → List ℕ
    pub in_bytes : AllFit m sent → (v : ℕ) → IsCorrect m faulty v → AreBytes (inputs v)
    pub all : CallsConnect words m meanwhile (calls_of inputs) begins (after + rounds)
    pub rest : CallsConnect words m faulty
        (calls_after (restart_of inputs node after) (calls_of inputs))
        (begins_after (restart_of inputs node after) begins) rounds
    pub begin : BeginIn words lines m plans faulty starts inputs
    pub given : (t v u : ℕ) → t < begins v + (after + rounds) → IsCorrect m meanwhile v
        → u < m.nodes → is_in faulty u ≡ true
        → cell_heard words (whole (inputs v)) t u ≡ sent t v u
    pub given_anew : (i u : ℕ) → i < rounds → IsCorrect m faulty node
        → u < m.nodes → is_in faulty u ≡ true
        → cell_heard words (whole (inputs node)) i u ≡ sent (begins node + after + i) node u
    pub ends : (v : ℕ) → IsCorrect m faulty v
        → (node_outcome words (inputs v)).ended
        ≡ Ok (begins_after (restart_of inputs node after) begins v + rounds)

  -- There are such inputs, whatever states the nodes begin in, the one that is started anew too,
  -- after however many rounds, and whatever is sent: what is promised of restarts is of some calls.
  abbrev pub AnyInputsRestart : (Accepted : Plan → Type 0) → Type 0
  AnyInputsRestart Accepted = (m : Machine) (plans : ℕ → Plan)
      → AreOneMachine words Accepted m plans → (faulty meanwhile : List ℕ)
      (node after : ℕ) → AreFaultyMeanwhile node faulty meanwhile → (starts : ℕ → State)
      (sent : ℕ → ℕ → ℕ → List ℕ) (begins : ℕ → ℕ) (rounds : ℕ)
      → ((v : ℕ) → begins v + (after + rounds) ≤ most_packets)
      → ((v : ℕ) → IsCorrect m faulty v → IsState m v (starts v))
      → InputsRestart m plans faulty meanwhile node after starts sent begins rounds
