-- A group around a node, in a configuration and in what the node hears.
use Rattle.std.specs.Prelude.{◌≡◌, ◌+◌, ◌<◌, ◌≤◌, List, length, All}
use Rattle.sync_types.specs.States.{State}
use Rattle.halving_plan.specs.Groups.{HalvingGroup}
use Rattle.halving_plan.specs.GroupStates.{HasGroup}
use Rattle.trace.specs.declared.views.View.{View}

-- the node is in the group, whose nodes are some of all, and all states have the group's registers
pub record IsAround (group : HalvingGroup) (view : View) (heard : List State) : Type 0 where
  pub first : group.first ≤ view.heading.node
  pub last : view.heading.node < group.first + group.nodes
  pub within : group.first + group.nodes ≤ length view.config.now
  pub size : length heard ≡ length view.config.now
  pub deep : All (HasGroup group) view.config.now
  pub hears : All (HasGroup group) heard
