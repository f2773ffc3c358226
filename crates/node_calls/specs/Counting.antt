-- Nodes that keep their states as bytes, and step in rounds as the calls answer.
use Rattle.std.specs.Prelude.{◌≡◌, ◌≢◌, ℕ, ◌+◌, ◌%◌, ◌<◌, ◌≤◌, List, [], length, slice_index_or, Ok}
use Rattle.std.specs.Prelude.{false}
use Rattle.construction.specs.Runs.{is_in}
use Rattle.state_codec.specs.Shapes.{bytes_in}
use Rattle.machines.specs.Machines.{Machine, IsToleratedBy, IsLocked}
use Rattle.node_calls.specs.declared.any_machines.AnyMachine.{AnyMachine}
use Rattle.node_calls.specs.Machines.{machine_of}
use Rattle.node_stepper.specs.NodeRuns.{IsCorrect}
use Rattle.node_stepper.specs.Losses.{AreMissed}
use Rattle.node_stepper.specs.Rounds.{states_said}
use Rattle.node_calls.specs.Counters.{counter_answer}
use Rattle.node_calls.specs.Answers.{packets_for, output_answer, step_answer}

-- the cell of node u in the first packet of these bytes
abbrev pub cell_in : Machine → (packets : List ℕ) → (u : ℕ) → List ℕ
cell_in m packets u = slice_index_or (slice_index_or (packets_for m packets).cells 0 []) u []

-- So many rounds of the correct nodes. `bytes t v` are the state of node v before round t, of any
-- contents at first, and `packets t v` is what it is given in that round. What faulty nodes say may
-- be any cells, to each receiver others.
pub record InRounds (text : List ℕ) (m : Machine) (faulty : List ℕ) (count : ℕ)
    (bytes packets : ℕ → ℕ → List ℕ) : Type 0 where
  -- each begins with as many bytes as its state has
  pub long : (v : ℕ) → IsCorrect m faulty v → length (bytes 0 v) ≡ bytes_in (m.fields v)
  -- it is given the state of each other correct node
  pub told : (t v u : ℕ) → t < count → IsCorrect m faulty v → IsCorrect m faulty u → u ≢ v
      → cell_in m (packets t v) u ≡ bytes t u
  -- and steps as the call answers, after one packet
  pub steps : (t v : ℕ) → t < count → IsCorrect m faulty v
      → step_answer text v (bytes t v) (packets t v) ≡ Ok (1, bytes (t + 1) v)

module _ (text : List ℕ) (m : Machine) (faulty : List ℕ) (count : ℕ) (bytes : ℕ → ℕ → List ℕ) where
  -- from a round on all correct nodes show one number, which grows by one modulo C in each round
  pub record CountFrom (from : ℕ) : Type 0 where
    pub output : ℕ → ℕ
    pub shows : (t v : ℕ) → from ≤ t → t ≤ count → IsCorrect m faulty v
        → output_answer text v (bytes t v) ≡ Ok (output t)
    pub grows : (t : ℕ) → from ≤ t → t < count → output (t + 1) ≡ (output t + 1) % m.modulus

  -- they are locked, and count
  pub record StayLockedFrom (from : ℕ) : Type 0 where
    pub locked : (t : ℕ) → from ≤ t → t ≤ count → IsLocked m faulty (states_said m bytes t)
    pub counts : CountFrom from

  -- They count from the bound on, at which they are locked, and from any locked round on.
  pub record CountByBytes : Type 0 where
    pub settles : CountFrom m.bound
    pub locks : m.bound ≤ count → IsLocked m faulty (states_said m bytes m.bound)
    pub stays : (from : ℕ) → from ≤ count → IsLocked m faulty (states_said m bytes from)
        → StayLockedFrom from

-- Nodes that step so count, with each faulty set that the counter tolerates. A round is a call in
-- each of them, however many calls each has made before: so it is too if some were started anew.
abbrev pub NodesCount : Type 0
NodesCount = (text : List ℕ) (counter : AnyMachine) → counter_answer text ≡ Ok counter
    → (faulty : List ℕ) → IsToleratedBy (machine_of counter) faulty
    → (count : ℕ) (bytes packets : ℕ → ℕ → List ℕ)
    → InRounds text (machine_of counter) faulty count bytes packets
    → CountByBytes text (machine_of counter) faulty count bytes

-- ---- losses

-- So many rounds in which states are lost: each correct node is given the states of all nodes that
-- it does not miss in that round. Of those that it misses it may be given any cells.
pub record InLossyRounds (text : List ℕ) (m : Machine) (faulty : List ℕ) (count : ℕ)
    (bytes packets : ℕ → ℕ → List ℕ) : Type 0 where
  pub long : (v : ℕ) → IsCorrect m faulty v → length (bytes 0 v) ≡ bytes_in (m.fields v)
  pub missed : (t v : ℕ) → List ℕ
  pub are : (t v : ℕ) → t < count → IsCorrect m faulty v → AreMissed m faulty v (missed t v)
  pub told : (t v u : ℕ) → t < count → IsCorrect m faulty v → u < m.nodes
      → is_in (missed t v) u ≡ false → u ≢ v → cell_in m (packets t v) u ≡ bytes t u
  pub steps : (t v : ℕ) → t < count → IsCorrect m faulty v
      → step_answer text v (bytes t v) (packets t v) ≡ Ok (1, bytes (t + 1) v)

-- From any locked round on they stay locked and count, as long as each correct node is given in
-- each round the states of N - F correct nodes, its own among them, whichever these are.
abbrev pub LossyNodesCount : Type 0
LossyNodesCount = (text : List ℕ) (counter : AnyMachine) → counter_answer text ≡ Ok counter
    → (faulty : List ℕ) → IsToleratedBy (machine_of counter) faulty
    → (count : ℕ) (bytes packets : ℕ → ℕ → List ℕ)
    → InLossyRounds text (machine_of counter) faulty count bytes packets
    → (from : ℕ) → from ≤ count → IsLocked (machine_of counter) faulty
    (states_said (machine_of counter) bytes from)
    → StayLockedFrom text (machine_of counter) faulty count bytes from
