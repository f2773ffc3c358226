-- There are rounds in which states are lost, of nodes that step by calls.
use Rattle.std.specs.Prelude.{◌≡◌, ℕ, ◌<◌, List, Ok, true}
use Rattle.sync_types.specs.States.{State}
use Rattle.construction.specs.Runs.{is_in}
use Rattle.state_codec.specs.Writing.{written}
use Rattle.machines.specs.Machines.{Machine, IsState}
use Rattle.node_calls.specs.declared.any_machines.AnyMachine.{AnyMachine}
use Rattle.node_calls.specs.Machines.{machine_of}
use Rattle.node_stepper.specs.Bytes.{AreBytes, FitsCell}
use Rattle.node_stepper.specs.NodeRuns.{IsCorrect}
use Rattle.node_stepper.specs.Losses.{AreMissed}
use Rattle.node_calls.specs.Counters.{counter_answer}
use Rattle.node_calls.specs.Counting.{cell_in, InLossyRounds}

-- Rounds of nodes that begin in these states, of which each misses these nodes in each round: in
-- round t node v is given `sent t v u` as the state of a node u that it misses then. If these are
-- bytes that fit into a cell, the packets are bytes.
pub record MissIn (text : List ℕ) (m : Machine) (faulty : List ℕ) (starts : ℕ → State)
    (sent : ℕ → ℕ → ℕ → List ℕ) (missed : (t v : ℕ) → List ℕ) (count : ℕ) : Type 0 where
  pub bytes : ℕ → ℕ → List ℕ
  pub packets : ℕ → ℕ → List ℕ
  pub begin : (v : ℕ) → IsCorrect m faulty v → bytes 0 v ≡ written (m.fields v) (starts v)
  pub rounds : InLossyRounds text m faulty count bytes packets
  pub miss : rounds.missed ≡ missed
  pub lost : (t v u : ℕ) → t < count → IsCorrect m faulty v → u < m.nodes
      → is_in (missed t v) u ≡ true → cell_in m (packets t v) u ≡ sent t v u
  pub in_bytes : ((t v u : ℕ) → t < count → IsCorrect m faulty v → u < m.nodes
      → is_in (missed t v) u ≡ true → FitsCell (sent t v u))
      → (t v : ℕ) → t < count → IsCorrect m faulty v → AreBytes (packets t v)

-- There are such rounds, whatever states the nodes begin in, whatever is lost of what the counter
-- tolerates, to each node in each round something else, and whatever is given in its place.
abbrev pub AnyLossesAreTold : Type 0
AnyLossesAreTold = (text : List ℕ) (counter : AnyMachine) → counter_answer text ≡ Ok counter
    → (faulty : List ℕ) (starts : ℕ → State) (sent : ℕ → ℕ → ℕ → List ℕ)
    (missed : (t v : ℕ) → List ℕ) (count : ℕ)
    → ((v : ℕ) → IsCorrect (machine_of counter) faulty v
    → IsState (machine_of counter) v (starts v))
    → ((t v : ℕ) → t < count → IsCorrect (machine_of counter) faulty v
    → AreMissed (machine_of counter) faulty v (missed t v))
    → MissIn text (machine_of counter) faulty starts sent missed count
