-- A group of a level among the nodes of a configuration, with what a node hears of it.
use Rattle.std.specs.Prelude.{◌≡◌, ℕ, ◌+◌, ◌<◌, ◌≤◌, List, length, All}
use Rattle.sync_types.specs.States.{State}
use Rattle.plan_numbers.specs.declared.numbers.LevelNums.{LevelNums}
use Rattle.boost_step.specs.Numbers.{AreNumbers}
use Rattle.trace.specs.declared.views.View.{View}

pub record Placed : Type 0 where
  pub view : View
  pub nums : LevelNums
  pub below : ℕ
  pub first : ℕ
  pub group : List State

-- the group is one of the configuration's nodes; their states, and those that are heard of it,
-- have a register of the level
pub record IsPlace (view : View) (nums : LevelNums) (below first : ℕ) (group : List State)
    : Type 0 where
  pub numbers : AreNumbers nums
  pub shallow : below < 5
  pub within : first + nums.nodes ≤ length view.config.now
  pub deep : All (λ s. below < length s.registers) view.config.now
  pub size : length group ≡ nums.nodes
  pub heard : All (λ s. below < length s.registers) group
