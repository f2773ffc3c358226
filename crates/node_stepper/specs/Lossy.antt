-- There are nodes over packets of which some are lost.
use Rattle.std.specs.Prelude.{◌≡◌, ℕ, ◌+◌, ◌<◌, List, length, true, false}
use Rattle.sync_types.specs.States.{State}
use Rattle.construction.specs.Runs.{is_in}
use Rattle.state_codec.specs.Writing.{written}
use Rattle.machines.specs.Machines.{Machine, IsState}
use Rattle.machines.specs.Laws.{IsSound}
use Rattle.node_stepper.specs.Laws.{AreFull}
use Rattle.node_stepper.specs.NodeRuns.{Nodes, cell_given, IsCorrect, state_in}
use Rattle.node_stepper.specs.Losses.{AreMissed, AreHeard}

-- Nodes that begin in these states, of which each misses these nodes in each round, and is given
-- these bytes: in packet t node v is given `sent t v u` as the cell of a node that it misses then,
-- and before the window of each node u. As the cell of another node it is given what that one
-- writes after as many rounds.
pub record ConnectsMost (m : Machine) (faulty : List ℕ) (starts : ℕ → State)
    (sent : ℕ → ℕ → ℕ → List ℕ) (missed : (i v : ℕ) → List ℕ) (begins : ℕ → ℕ) (rounds : ℕ)
    : Type 0 where
  pub nodes : Nodes
  pub begin : nodes.starts ≡ starts
  pub are : AreHeard m faulty nodes begins rounds
  pub long : (v : ℕ) → length (nodes.packets v) ≡ begins v + rounds
  pub full : (v : ℕ) → AreFull m.nodes (nodes.packets v)
  pub early : (t v u : ℕ) → t < begins v → u < m.nodes → cell_given nodes t v u ≡ sent t v u
  pub lost : (i v u : ℕ) → i < rounds → u < m.nodes → is_in (missed i v) u ≡ true
      → cell_given nodes (begins v + i) v u ≡ sent (begins v + i) v u
  pub wrote : (i v u : ℕ) → i < rounds → u < m.nodes → is_in (missed i v) u ≡ false
      → cell_given nodes (begins v + i) v u ≡ written (m.fields u) (state_in m nodes begins i u)

-- There are such nodes, whatever is lost of what a sound machine tolerates, and whatever is sent in
-- its place.
abbrev pub AnyLossesConnect : Type 0
AnyLossesConnect = (m : Machine) → IsSound m → (faulty : List ℕ) (starts : ℕ → State)
    (sent : ℕ → ℕ → ℕ → List ℕ) (missed : (i v : ℕ) → List ℕ) (begins : ℕ → ℕ) (rounds : ℕ)
    → ((v : ℕ) → IsCorrect m faulty v → IsState m v (starts v))
    → ((i v : ℕ) → i < rounds → IsCorrect m faulty v → AreMissed m faulty v (missed i v))
    → ConnectsMost m faulty starts sent missed begins rounds
