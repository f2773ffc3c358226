-- The engine of a node.
use Rattle.std.specs.Prelude.{◌≡◌, ℕ}
use Rattle.sync_types.specs.States.{State}
use Rattle.machines.specs.Machines.{Machine}
use Rattle.node_stepper.specs.Nodes.{Standing, own}

-- an engine, whose counter is a machine, is node v of this machine in a state
pub record StandsFor {M : Type 0} (machine : M → Machine) (m : Machine) (v : ℕ) (s : State)
    (e : Standing M) : Type 0 where
  pub counter : machine e.counter ≡ m
  pub id : e.id ≡ v
  pub state : own e ≡ s
