-- Which nodes a node may miss in a round: it may hear any N - F correct ones, itself among them.
use Rattle.std.specs.Prelude.{◌≡◌, ℕ, ◌+◌, ◌≤◌, List, length, filter, not, All, true}
use Rattle.std.specs.List.{range_with_len}
use Rattle.std.specs.List.Sorted.{IsStrictlyIncreasing}
use Rattle.construction.specs.Runs.{is_in}
use Rattle.machines.specs.Machines.{Machine, IsToleratedBy}
use Rattle.node_stepper.specs.NodeRuns.{IsCorrect}
use Rattle.node_stepper.specs.Losses.{AreMissed}

-- these are correct nodes that node v hears, N - F of them at least, itself among them
pub record HearsEnough (m : Machine) (faulty heard : List ℕ) (v : ℕ) : Type 0 where
  pub rising : IsStrictlyIncreasing heard
  pub correct : All (IsCorrect m faulty) heard
  pub many : m.nodes ≤ length heard + m.faults
  pub own : is_in heard v ≡ true

-- all other nodes
abbrev pub others_of : Machine → (heard : List ℕ) → List ℕ
others_of m heard = filter (λ u. not (is_in heard u)) (range_with_len 0 m.nodes)

-- Whichever these are, it may miss all others.
abbrev pub OthersAreMissed : Type 0
OthersAreMissed = (m : Machine) (faulty heard : List ℕ) (v : ℕ) → IsToleratedBy m faulty
    → HearsEnough m faulty heard v → AreMissed m faulty v (others_of m heard)
