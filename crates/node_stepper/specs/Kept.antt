-- What an engine keeps.
use Rattle.std.specs.Prelude.{◌≡◌, ◌<◌, ℕ, Bool, List, length}
use Rattle.sync_types.specs.States.{State}
use Rattle.counter_core.specs.declared.work.Work.{Work}
use Rattle.counter_core.specs.Working.{IsWorkFor}
use Rattle.machines.specs.Machines.{Machine, IsConfiguration}
use Rattle.machines.specs.Laws.{IsSound}

pub record IsValidEngine (m : Machine) (id : ℕ) (states : List State) (since : List Bool)
    (next : State)
    (work : Work) : Type 0 where
  pub sound : IsSound m
  pub node : id < m.nodes
  pub among : IsConfiguration m states
  pub marks : length since ≡ m.nodes
  pub room : length next.registers ≡ m.depth
  pub ready : IsWorkFor m.nodes work
