-- Inputs of calls, of which one ends and another call of its node goes on from its last cell.
use Rattle.std.specs.Prelude.{◌≡◌, ℕ, ◌+◌, ◌<◌, ◌≤◌, true, List, Ok}
use Rattle.sync_types.specs.States.{State}
use Rattle.construction.specs.Runs.{is_in}
use Rattle.machines.specs.Machines.{Machine, IsState, IsToleratedBy, IsLocked}
use Rattle.node_stepper.specs.Bytes.{AreBytes, AllFit}
use Rattle.node_stepper.specs.NodeRuns.{IsCorrect}
use Rattle.node_stepper.specs.Packets.{most_packets}
use Rattle.node_words.specs.Constructions.{Words}
use Rattle.node_words.specs.NodeAnswers.{node_outcome}
use Rattle.node_words.specs.Calls.{whole, header_of, cell_heard}
use Rattle.node_words.specs.CallWindows.{cell_written, state_written, states_written}
use Rattle.node_words.specs.CallWindows.{CallsConnect}
use Rattle.node_words.specs.Restarts.{calls_after, begins_after, AreFaultyMeanwhile}
use Rattle.node_words.specs.Inputs.{header_stated, AreOneMachine, BeginIn}
use Rattle.node_words.specs.RestartInputs.{calls_of, restart_with}

module _ {Reader Plan Premise : Type 0} (words : Words Reader Plan Premise) (lines : Plan → ℕ) where
  -- Inputs whose nodes begin in these states. All are connected for so many rounds; there the input
  -- of one node ends, and with another input of it, whose header has the state of the last cell
  -- that it wrote, all are connected in the rest. That cell is also the first one that is written
  -- there. The configuration then is locked if the machine tolerates the faulty nodes and as many
  -- rounds passed as the bound says. The inputs are bytes, if what is sent fits into cells.
  pub record InputsResume (m : Machine) (plans : ℕ → Plan) (faulty meanwhile : List ℕ)
      (node after : ℕ) (starts : ℕ → State) (sent : ℕ → ℕ → ℕ → List ℕ) (begins : ℕ → ℕ)
      (rounds : ℕ) : Type 0 where
    pub inputs : ℕ → List ℕ
    pub resumed : List ℕ
    pub in_bytes : AllFit m sent → (v : ℕ) → IsCorrect m faulty v → AreBytes (inputs v)
    pub resumed_in_bytes : AllFit m sent → AreBytes resumed
    pub before : CallsConnect words m faulty (calls_of inputs) begins after
    pub all : CallsConnect words m meanwhile (calls_of inputs) begins (after + rounds)
    pub rest : CallsConnect words m faulty
        (calls_after (restart_with node after resumed) (calls_of inputs))
        (begins_after (restart_with node after resumed) begins) rounds
    pub begin : BeginIn words lines m plans faulty starts inputs
    pub goes_on : header_of words (whole resumed)
        ≡ Ok (header_stated (lines (plans node)) (plans node) node
        (state_written words m (calls_of inputs) (begins node + after) node))
    pub handed : cell_written words m
        (calls_after (restart_with node after resumed) (calls_of inputs)) 0 node
        ≡ cell_written words m (calls_of inputs) (begins node + after) node
    pub locked : IsToleratedBy m faulty → m.bound ≤ after
        → IsLocked m faulty (states_written words m (calls_of inputs) begins after)
    pub given : (t v u : ℕ) → t < begins v + (after + rounds) → IsCorrect m meanwhile v
        → u < m.nodes → is_in faulty u ≡ true
        → cell_heard words (whole (inputs v)) t u ≡ sent t v u
    pub given_before : (t u : ℕ) → t < begins node + after → u < m.nodes → is_in faulty u ≡ true
        → cell_heard words (whole (inputs node)) t u ≡ sent t node u
    pub given_resumed : (i u : ℕ) → i < rounds → u < m.nodes → is_in faulty u ≡ true
        → cell_heard words (whole resumed) i u ≡ sent (begins node + after + i) node u
    pub ends : (v : ℕ) → IsCorrect m meanwhile v
        → (node_outcome words (inputs v)).ended ≡ Ok (begins v + (after + rounds))
    pub ends_before : (node_outcome words (inputs node)).ended ≡ Ok (begins node + after)
    pub ends_resumed : (node_outcome words resumed).ended ≡ Ok rounds

  -- There are such inputs, whatever states the nodes begin in, whichever node it is that goes on,
  -- after however many rounds, and whatever is sent.
  abbrev pub AnyInputsResume : (Accepted : Plan → Type 0) → Type 0
  AnyInputsResume Accepted = (m : Machine) (plans : ℕ → Plan)
      → AreOneMachine words Accepted m plans → (faulty meanwhile : List ℕ)
      (node after : ℕ) → AreFaultyMeanwhile node faulty meanwhile → IsCorrect m faulty node
      → (starts : ℕ → State) (sent : ℕ → ℕ → ℕ → List ℕ) (begins : ℕ → ℕ) (rounds : ℕ)
      → ((v : ℕ) → begins v + (after + rounds) ≤ most_packets)
      → ((v : ℕ) → IsCorrect m faulty v → IsState m v (starts v))
      → InputsResume m plans faulty meanwhile node after starts sent begins rounds
