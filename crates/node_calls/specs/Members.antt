-- There are networks of processes and callers.
use Rattle.std.specs.Prelude.{◌≡◌, ℕ, ◌<◌, List, true, Ok, All, Option, Some, None}
use Rattle.sync_types.specs.States.{State}
use Rattle.construction.specs.Runs.{is_in}
use Rattle.state_codec.specs.Writing.{written}
use Rattle.machines.specs.Machines.{Machine, IsState}
use Rattle.node_calls.specs.declared.any_machines.AnyMachine.{AnyMachine}
use Rattle.node_calls.specs.Machines.{machine_of}
use Rattle.node_stepper.specs.Bytes.{AreBytes, FitsCell}
use Rattle.node_stepper.specs.NodeRuns.{IsCorrect}
use Rattle.node_stepper.specs.Losses.{AreMissed}
use Rattle.node_calls.specs.Counters.{counter_answer}
use Rattle.node_calls.specs.MixedNodes.{Member, process, caller, hears, MembersConnect}
use Rattle.node_calls.specs.MixedNodes.{MembersAreHeard}

-- Node v begins in this state: as a process, whose window begins at this packet of it; or, if none
-- is said, as a caller with this text.
abbrev pub Begins : Machine → (text : List ℕ) → (v : ℕ) → State → Option ℕ → Member → Type 0
Begins m text v s (Some at) (process start packets begins) = (start ≡ s) × (begins ≡ at)
Begins m text v s None (caller own bytes packets) =
    (own ≡ text) × (bytes 0 ≡ written (m.fields v) s)
Begins m text v s at other = ⊥

-- what it is given in so many rounds is bytes; a process is given bytes before them too
abbrev pub IsGivenBytes : (rounds : ℕ) → Member → Type 0
IsGivenBytes rounds (process start packets begins) = All (All FitsCell) packets
IsGivenBytes rounds (caller text bytes packets) = (i : ℕ) → i < rounds → AreBytes (packets i)

module _ (m : Machine) (text : List ℕ) (faulty : List ℕ) (starts : ℕ → State)
    (begins : ℕ → Option ℕ) (sent : (i v u : ℕ) → List ℕ) (rounds : ℕ) where
  -- Members that begin so and are given what the correct ones say: as the cell of a faulty node u,
  -- node v is given `sent i v u` in round i. If these are bytes that fit, all that is given are.
  pub record ConnectedMembers : Type 0 where
    pub members : ℕ → Member
    pub begin : (v : ℕ) → IsCorrect m faulty v → Begins m text v (starts v) (begins v) (members v)
    pub connect : MembersConnect m faulty members rounds
    pub given : (i v u : ℕ) → i < rounds → IsCorrect m faulty v → u < m.nodes
        → is_in faulty u ≡ true → hears m (members v) i u ≡ sent i v u
    pub in_bytes : ((i v u : ℕ) → i < rounds → IsCorrect m faulty v → u < m.nodes
        → is_in faulty u ≡ true → FitsCell (sent i v u))
        → (v : ℕ) → IsCorrect m faulty v → IsGivenBytes rounds (members v)

  -- members that do so when states are lost: node v is given `sent i v u` as the cell of a node
  -- that it misses in round i
  pub record HeardMembers (missed : (i v : ℕ) → List ℕ) : Type 0 where
    pub members : ℕ → Member
    pub begin : (v : ℕ) → IsCorrect m faulty v → Begins m text v (starts v) (begins v) (members v)
    pub heard : MembersAreHeard m faulty members rounds
    pub miss : heard.missed ≡ missed
    pub given : (i v u : ℕ) → i < rounds → IsCorrect m faulty v → u < m.nodes
        → is_in (missed i v) u ≡ true → hears m (members v) i u ≡ sent i v u
    pub in_bytes : ((i v u : ℕ) → i < rounds → IsCorrect m faulty v → u < m.nodes
        → is_in (missed i v) u ≡ true → FitsCell (sent i v u))
        → (v : ℕ) → IsCorrect m faulty v → IsGivenBytes rounds (members v)

-- There are such members, whichever nodes are callers, whatever states they begin in, wherever the
-- window begins in each process, and whatever the faulty ones say.
abbrev pub AnyMembersConnect : Type 0
AnyMembersConnect = (text : List ℕ) (counter : AnyMachine) → counter_answer text ≡ Ok counter
    → (faulty : List ℕ) (starts : ℕ → State) (begins : ℕ → Option ℕ)
    (sent : (i v u : ℕ) → List ℕ) (rounds : ℕ)
    → ((v : ℕ) → IsCorrect (machine_of counter) faulty v
    → IsState (machine_of counter) v (starts v))
    → ConnectedMembers (machine_of counter) text faulty starts begins sent rounds

-- So there are whatever is lost of what the counter tolerates, to each node in each round something
-- else, and whatever is given in its place.
abbrev pub AnyMembersAreHeard : Type 0
AnyMembersAreHeard = (text : List ℕ) (counter : AnyMachine) → counter_answer text ≡ Ok counter
    → (faulty : List ℕ) (starts : ℕ → State) (begins : ℕ → Option ℕ)
    (sent : (i v u : ℕ) → List ℕ) (missed : (i v : ℕ) → List ℕ) (rounds : ℕ)
    → ((v : ℕ) → IsCorrect (machine_of counter) faulty v
    → IsState (machine_of counter) v (starts v))
    → ((i v : ℕ) → i < rounds → IsCorrect (machine_of counter) faulty v
    → AreMissed (machine_of counter) faulty v (missed i v))
    → HeardMembers (machine_of counter) text faulty starts begins sent rounds missed
