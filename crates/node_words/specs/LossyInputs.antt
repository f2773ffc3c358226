-- Inputs of calls to which cells are lost.
use Rattle.std.specs.Prelude.{◌≡◌, ℕ, ◌+◌, ◌<◌, ◌≤◌, true, List, Ok}
use Rattle.sync_types.specs.States.{State}
use Rattle.construction.specs.Runs.{is_in}
use Rattle.machines.specs.Machines.{Machine, IsState}
use Rattle.node_stepper.specs.Bytes.{AreBytes, AllFit}
use Rattle.node_stepper.specs.NodeRuns.{IsCorrect}
use Rattle.node_stepper.specs.Losses.{AreMissed}
use Rattle.node_stepper.specs.Packets.{most_packets}
use Rattle.node_words.specs.Constructions.{Words}
use Rattle.node_words.specs.NodeAnswers.{node_outcome}
use Rattle.node_words.specs.Calls.{whole, cell_heard}
use Rattle.node_words.specs.CallWindows.{CallsAreHeard}
use Rattle.node_words.specs.Inputs.{AreOneMachine, BeginIn}
use Rattle.node_words.specs.RestartInputs.{calls_of}

module _ {Reader Plan Premise : Type 0} (words : Words Reader Plan Premise) (lines : Plan → ℕ) where
  -- Inputs of heard calls whose nodes begin in these states, and miss these nodes: in packet t node
  -- v is given `sent t v u` as the cell of a node that it misses then, and before the window of
  -- each node u. Each call answers all packets of its window, and its input ends there. The inputs
  -- are bytes, if what is sent fits into cells.
  pub record InputsLose (m : Machine) (plans : ℕ → Plan) (faulty : List ℕ) (starts : ℕ → State)
      (sent : ℕ → ℕ → ℕ → List ℕ) (missed : (i v : ℕ) → List ℕ) (begins : ℕ → ℕ) (rounds : ℕ)
      : Type 0 where
    pub inputs : ℕ → List ℕ
    pub in_bytes : AllFit m sent → (v : ℕ) → IsCorrect m faulty v → AreBytes (inputs v)
    pub heard : CallsAreHeard words m faulty (calls_of inputs) begins rounds
    pub misses : heard.missed ≡ missed
    pub begin : BeginIn words lines m plans faulty starts inputs
    pub early : (t v u : ℕ) → t < begins v → IsCorrect m faulty v → u < m.nodes
        → cell_heard words (whole (inputs v)) t u ≡ sent t v u
    pub lost : (i v u : ℕ) → i < rounds → IsCorrect m faulty v → u < m.nodes
        → is_in (missed i v) u ≡ true
        → cell_heard words (whole (inputs v)) (begins v + i) u ≡ sent (begins v + i) v u
    pub ends : (v : ℕ) → IsCorrect m faulty v
        → (node_outcome words (inputs v)).ended ≡ Ok (begins v + rounds)

  -- There are such inputs, whatever states the correct nodes begin in, whichever nodes each of them
  -- misses in each round, as long as these are few, and whatever is given in place of their cells.
  abbrev pub AnyInputsLose : (Accepted : Plan → Type 0) → Type 0
  AnyInputsLose Accepted = (m : Machine) (plans : ℕ → Plan)
      → AreOneMachine words Accepted m plans → (faulty : List ℕ)
      (starts : ℕ → State) (sent : ℕ → ℕ → ℕ → List ℕ) (missed : (i v : ℕ) → List ℕ)
      (begins : ℕ → ℕ) (rounds : ℕ)
      → ((v : ℕ) → begins v + rounds ≤ most_packets)
      → ((v : ℕ) → IsCorrect m faulty v → IsState m v (starts v))
      → ((i v : ℕ) → i < rounds → IsCorrect m faulty v → AreMissed m faulty v (missed i v))
      → InputsLose m plans faulty starts sent missed begins rounds
