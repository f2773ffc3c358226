-- The states of a group.
use Rattle.std.specs.Prelude.{◌≡◌, ℕ, ◌≤◌, List, length, All}
use Rattle.sync_types.specs.States.{State}
use Rattle.construction.specs.Plans.{Level, nodes_of}
use Rattle.plan_laws.specs.PlanMeaning.{IsWithin}

-- one for each node of the group, in range, with a register for each of its levels
pub record AreGroupStates (base : ℕ) (levels : List Level) (states : List State) : Type 0 where
  pub size : length states ≡ nodes_of levels
  pub range : All (IsWithin base levels) states
  pub deep : All (λ s. length levels ≤ length s.registers) states
