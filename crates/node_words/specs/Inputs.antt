-- Inputs of calls that connect.
use Rattle.std.specs.Prelude.{◌≡◌, ℕ, ◌+◌, ◌<◌, ◌≤◌, true, ◌⊎◌, List, Ok}
use Rattle.sync_types.specs.States.{State}
use Rattle.construction.specs.Runs.{is_in}
use Rattle.machines.specs.Machines.{Machine, IsState}
use Rattle.node_words.specs.HeaderParts.{HeaderOf}
use Rattle.node_stepper.specs.Bytes.{AreBytes, AllFit}
use Rattle.node_stepper.specs.NodeRuns.{IsCorrect}
use Rattle.node_stepper.specs.Packets.{most_packets}
use Rattle.node_words.specs.Constructions.{Words}
use Rattle.node_words.specs.NodeAnswers.{node_outcome}
use Rattle.node_words.specs.Calls.{whole, header_of, cell_heard}
use Rattle.node_words.specs.CallWindows.{CallsConnect}

-- the header of node v of a plan in a state, in so many lines
abbrev pub header_stated : {Plan : Type 0} → (lines : ℕ) → Plan → (v : ℕ) → State → HeaderOf Plan
header_stated lines plan v s =
    record { plan = plan; node = record { id = v; state = s }; lines = lines }

-- Plans that headers state, `plans v` that of node v: each is accepted, and they are one machine,
-- as those of one counter are whose texts have other versions.
pub record AreOneMachine {Reader Plan Premise : Type 0} (words : Words Reader Plan Premise)
    (Accepted : Plan → Type 0) (m : Machine) (plans : ℕ → Plan) : Type 0 where
  pub accepted : (v : ℕ) → Accepted (plans v)
  pub machine : (v : ℕ) → words.machine (plans v) ≡ m

-- of a construction whose headers have as many lines as their plans say
module _ {Reader Plan Premise : Type 0} (words : Words Reader Plan Premise) (lines : Plan → ℕ) where
  -- the header of a correct node's input states its plan, and that it begins in this state
  abbrev pub BeginIn : Machine → (plans : ℕ → Plan) → (faulty : List ℕ) → (starts : ℕ → State)
      → (inputs : ℕ → List ℕ) → Type 0
  BeginIn m plans faulty starts inputs = (v : ℕ) → IsCorrect m faulty v
      → header_of words (whole (inputs v))
      ≡ Ok (header_stated (lines (plans v)) (plans v) v (starts v))

  -- Inputs of connected calls whose nodes begin in these states and are given these bytes: in
  -- packet t node v is given `sent t v u` as the cell of a faulty node u, and before the window of
  -- each node u. Each call answers all packets of its window, and its input ends there. The inputs
  -- are bytes, if what is sent fits into cells.
  pub record InputsConnect (m : Machine) (plans : ℕ → Plan) (faulty : List ℕ)
      (starts : ℕ → State) (sent : ℕ → ℕ → ℕ → List ℕ) (begins : ℕ → ℕ) (rounds : ℕ)
      : Type 0 where
    pub inputs : ℕ → List ℕ
    pub in_bytes : AllFit m sent → (v : ℕ) → IsCorrect m faulty v → AreBytes (inputs v)
    pub connect : CallsConnect words m faulty (λ v. whole (inputs v)) begins rounds
    pub begin : BeginIn m plans faulty starts inputs
    pub given : (t v u : ℕ) → t < begins v + rounds → IsCorrect m faulty v → u < m.nodes
        → (t < begins v) ⊎ (is_in faulty u ≡ true)
        → cell_heard words (whole (inputs v)) t u ≡ sent t v u
    pub ends : (v : ℕ) → IsCorrect m faulty v
        → (node_outcome words (inputs v)).ended ≡ Ok (begins v + rounds)

  -- There are such inputs of all accepted plans that are one machine, whatever states of it the
  -- correct nodes begin in, wherever the window begins in each of them, and whatever is sent.
  abbrev pub AnyInputsConnect : (Accepted : Plan → Type 0) → Type 0
  AnyInputsConnect Accepted = (m : Machine) (plans : ℕ → Plan)
      → AreOneMachine words Accepted m plans → (faulty : List ℕ) (starts : ℕ → State)
      (sent : ℕ → ℕ → ℕ → List ℕ) (begins : ℕ → ℕ) (rounds : ℕ)
      → ((v : ℕ) → begins v + rounds ≤ most_packets)
      → ((v : ℕ) → IsCorrect m faulty v → IsState m v (starts v))
      → InputsConnect m plans faulty starts sent begins rounds
