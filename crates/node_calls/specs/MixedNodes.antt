-- One network of nodes, of which each is a process over packets, or steps by calls.
use Rattle.std.specs.Prelude.{◌≡◌, ◌≢◌, ⊤, ℕ, ◌+◌, ◌<◌, ◌≤◌, List, [], length, slice_index_or}
use Rattle.std.specs.Prelude.{false, unwrap_or, Ok}
use Rattle.sync_types.specs.States.{State}
use Rattle.construction.specs.Runs.{is_in}
use Rattle.state_codec.specs.Shapes.{bytes_in}
use Rattle.machines.specs.Machines.{Machine, IsState, IsToleratedBy, IsLocked}
use Rattle.machines.specs.Laws.{IsSound}
use Rattle.node_stepper.specs.Nodes.{node_text}
use Rattle.node_calls.specs.declared.any_machines.AnyMachine.{AnyMachine}
use Rattle.node_calls.specs.Machines.{machine_of}
use Rattle.node_stepper.specs.Cells.{cell_number}
use Rattle.node_stepper.specs.NodeRuns.{IsCorrect}
use Rattle.node_stepper.specs.Losses.{AreMissed}
use Rattle.node_stepper.specs.RunLaws.{StayLockedThrough}
use Rattle.node_stepper.specs.Rounds.{state_said, states_said, SayRun}
use Rattle.node_calls.specs.Counters.{counter_answer}
use Rattle.node_calls.specs.Answers.{output_answer, step_answer}
use Rattle.node_calls.specs.Counting.{cell_in}

-- A process begins in a state and is given packets; the window of rounds begins at one of these. A
-- caller keeps bytes, and makes of them the next ones by a call, after one packet, with the text of
-- a plan; both begin with the window.
pub data Member : Type 0 where
  process : (start : State) (packets : List (List (List ℕ))) (begins : ℕ) → Member
  caller : (text : List ℕ) (bytes packets : ℕ → List ℕ) → Member

-- what a caller does in so many rounds, by the text of a plan that is this machine
pub record CallsInRounds (m : Machine) (rounds v : ℕ) (text : List ℕ)
    (bytes packets : ℕ → List ℕ) : Type 0 where
  pub counter : AnyMachine
  pub is : counter_answer text ≡ Ok counter
  pub of : machine_of counter ≡ m
  pub long : length (bytes 0) ≡ bytes_in (m.fields v)
  pub steps : (i : ℕ) → i < rounds
      → step_answer text v (bytes i) (packets i) ≡ Ok (1, bytes (i + 1))

module _ (m : Machine) where
  -- What node v says after so many rounds: a process the cell that it writes then, a caller the
  -- bytes that it has.
  abbrev pub says : (v : ℕ) → Member → (i : ℕ) → List ℕ
  says v (process start packets begins) i =
      unwrap_or (cell_number (begins + i) (node_text m v start packets)) []
  says v (caller text bytes packets) i = bytes i

  -- the cell of node u in the packet that it is given in a round
  abbrev pub hears : Member → (i u : ℕ) → List ℕ
  hears (process start packets begins) i u =
      slice_index_or (slice_index_or packets (begins + i) []) u []
  hears (caller text bytes packets) i u = cell_in m (packets i) u

  -- it is node v, for so many rounds
  abbrev pub IsMember : (rounds v : ℕ) → Member → Type 0
  IsMember rounds v (process start packets begins) =
      IsState m v start × (begins + rounds ≤ length packets)
  IsMember rounds v (caller text bytes packets) = CallsInRounds m rounds v text bytes packets

  -- the call `output` answers what a caller's bytes show
  abbrev pub IsAnswered : (v : ℕ) → Member → (i : ℕ) → Type 0
  IsAnswered v (process start packets begins) i = ⊤
  IsAnswered v (caller text bytes packets) i =
      output_answer text v (bytes i) ≡ Ok (m.shows v (state_said m (λ t u. bytes t) i v))

  -- what all of them say
  abbrev pub all_say : (ℕ → Member) → (i v : ℕ) → List ℕ
  all_say members i v = says v (members v) i

module _ (m : Machine) (faulty : List ℕ) (members : ℕ → Member) (rounds : ℕ) where
  -- Each correct node is one of these, and in each round it is given what each other correct one
  -- says. The cells of faulty nodes are any bytes.
  pub record MembersConnect : Type 0 where
    pub are : (v : ℕ) → IsCorrect m faulty v → IsMember m rounds v (members v)
    pub told : (i v u : ℕ) → i < rounds → IsCorrect m faulty v → IsCorrect m faulty u → u ≢ v
        → hears m (members v) i u ≡ says m u (members u) i

  -- or what each other node says that it does not miss in this round
  pub record MembersAreHeard : Type 0 where
    pub are : (v : ℕ) → IsCorrect m faulty v → IsMember m rounds v (members v)
    pub missed : (i v : ℕ) → List ℕ
    pub few : (i v : ℕ) → i < rounds → IsCorrect m faulty v → AreMissed m faulty v (missed i v)
    pub told : (i v u : ℕ) → i < rounds → IsCorrect m faulty v → u < m.nodes
        → is_in (missed i v) u ≡ false → u ≢ v → hears m (members v) i u ≡ says m u (members u) i

  -- They make one run, and count.
  pub record MembersCount : Type 0 where
    pub run : SayRun m faulty rounds (all_say m members)
    pub answered : (i v : ℕ) → i ≤ rounds → IsCorrect m faulty v → IsAnswered m v (members v) i

-- Processes and callers of a sound machine count as one network, whichever nodes are which.
abbrev pub MixedNodesCount : Type 0
MixedNodesCount = (m : Machine) → IsSound m → (faulty : List ℕ) → IsToleratedBy m faulty
    → (members : ℕ → Member) (rounds : ℕ) → MembersConnect m faulty members rounds
    → MembersCount m faulty members rounds

-- From any locked round on they stay locked and count even if states are lost.
abbrev pub MixedNodesStayLocked : Type 0
MixedNodesStayLocked = (m : Machine) → IsSound m → (faulty : List ℕ) → IsToleratedBy m faulty
    → (members : ℕ → Member) (rounds : ℕ) → MembersAreHeard m faulty members rounds
    → (from : ℕ) → from ≤ rounds → IsLocked m faulty (states_said m (all_say m members) from)
    → StayLockedThrough m faulty (states_said m (all_say m members)) from rounds
