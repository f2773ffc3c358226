-- Calls of a node, one for each node of a machine, over a window of rounds.
use Rattle.std.specs.Prelude.{◌≡◌, ◌≢◌, ℕ, ◌+◌, ◌<◌, ◌≤◌, false, List, [], length, map, Option}
use Rattle.std.specs.Prelude.{Some, unwrap_or, IsSome}
use Rattle.std.specs.List.{range_with_len}
use Rattle.sync_types.specs.States.{State}
use Rattle.construction.specs.Runs.{is_in}
use Rattle.state_codec.specs.Reading.{read}
use Rattle.machines.specs.Machines.{Machine, IsToleratedBy, IsLocked}
use Rattle.node_stepper.specs.Cells.{cell_number}
use Rattle.node_stepper.specs.NodeRuns.{IsCorrect, SomeIsCorrect}
use Rattle.node_stepper.specs.Losses.{AreMissed}
use Rattle.node_stepper.specs.RunLaws.{RunThrough, CountThrough, StayLockedThrough}
use Rattle.node_words.specs.Constructions.{Words}
use Rattle.node_words.specs.Calls.{Call, packets_in, cell_heard, text_of, IsOfNode}

-- of a call for each node
module _ {Reader Plan Premise : Type 0} (words : Words Reader Plan Premise) (m : Machine)
    (calls : ℕ → Call) where
  -- cell t of what that of node v writes
  abbrev pub cell_written : (t v : ℕ) → Option (List ℕ)
  cell_written t v = cell_number t (text_of words (calls v))

  -- the state that it stands for
  abbrev pub state_written : (t v : ℕ) → State
  state_written t v = read (m.fields v) (unwrap_or (cell_written t v) [])

  -- The configuration after i rounds of a window. It begins in each call at a packet of its own,
  -- `begins v` in that of node v, since each process counts its packets from when it was started.
  abbrev pub states_written : (begins : ℕ → ℕ) → (i : ℕ) → List State
  states_written begins i = map (λ v. state_written (begins v + i) v) (range_with_len 0 m.nodes)

module _ {Reader Plan Premise : Type 0} (words : Words Reader Plan Premise) (m : Machine)
    (faulty : List ℕ) (calls : ℕ → Call) (begins : ℕ → ℕ) (rounds : ℕ) where
  -- Each correct node is a call of its own, with packets for so many rounds.
  pub record AreCalls : Type 0 where
    pub headers : (v : ℕ) → IsCorrect m faulty v → IsOfNode words m v (calls v)
    pub enough : (v : ℕ) → IsCorrect m faulty v
        → begins v + rounds ≤ length (packets_in words (calls v))

  -- In each round the cell of each other correct node is the one that this writes after as many
  -- rounds. The cells of faulty nodes are any bytes, and so are all cells of the packets before the
  -- window.
  pub record CallsConnect : Type 0 where
    pub are : AreCalls
    pub cells : (i v u : ℕ) → i < rounds → IsCorrect m faulty v → IsCorrect m faulty u → u ≢ v
        → cell_written words m calls (begins u + i) u
        ≡ Some (cell_heard words (calls v) (begins v + i) u)

  -- The cells that the correct nodes write in the window are the states of a run. They count so
  -- many rounds later as the bound says, are locked there, and from any locked configuration on
  -- they stay so and count.
  pub record NodesKeepPromise : Type 0 where
    pub written : (t v : ℕ) → t ≤ begins v + rounds → IsCorrect m faulty v
        → IsSome (cell_written words m calls t v)
    pub run : RunThrough m faulty (states_written words m calls begins) rounds
    pub settles : CountThrough m faulty (states_written words m calls begins) m.bound rounds
    pub locks : m.bound ≤ rounds
        → IsLocked m faulty (states_written words m calls begins m.bound)
    pub stays : (from : ℕ) → from ≤ rounds
        → IsLocked m faulty (states_written words m calls begins from)
        → StayLockedThrough m faulty (states_written words m calls begins) from rounds

  -- Cells are lost, or late: in each round each correct node is given the cells of all nodes that
  -- it does not miss then. It misses at most F, faulty ones among them, in each round others, and
  -- never itself. Of those that it misses the cells are any bytes.
  pub record CallsAreHeard : Type 0 where
    pub are_calls : AreCalls
    pub missed : (i v : ℕ) → List ℕ
    pub are : (i v : ℕ) → i < rounds → IsCorrect m faulty v → AreMissed m faulty v (missed i v)
    pub cells : (i v u : ℕ) → i < rounds → IsCorrect m faulty v → u < m.nodes
        → is_in (missed i v) u ≡ false → u ≢ v
        → cell_written words m calls (begins u + i) u
        ≡ Some (cell_heard words (calls v) (begins v + i) u)

module _ {Reader Plan Premise : Type 0} (words : Words Reader Plan Premise) (m : Machine) where
  -- Whichever nodes are faulty that the machine tolerates, if one is left that is correct,
  -- connected calls keep the promise.
  abbrev pub ConnectedCallsCount : Type 0
  ConnectedCallsCount = (faulty : List ℕ) → IsToleratedBy m faulty → SomeIsCorrect m faulty
      → (calls : ℕ → Call) (begins : ℕ → ℕ) (rounds : ℕ)
      → CallsConnect words m faulty calls begins rounds
      → NodesKeepPromise words m faulty calls begins rounds

  -- From any locked configuration on, calls stay locked and count when cells are lost, as long as
  -- each correct node is given in each round the cells of N - F correct nodes, its own among them.
  abbrev pub HeardCallsStayLocked : Type 0
  HeardCallsStayLocked = (faulty : List ℕ) → IsToleratedBy m faulty → SomeIsCorrect m faulty
      → (calls : ℕ → Call) (begins : ℕ → ℕ) (rounds : ℕ)
      → CallsAreHeard words m faulty calls begins rounds → (from : ℕ) → from ≤ rounds
      → IsLocked m faulty (states_written words m calls begins from)
      → StayLockedThrough m faulty (states_written words m calls begins) from rounds
