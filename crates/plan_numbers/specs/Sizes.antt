-- How large the numbers of accepted levels are.
use Rattle.std.specs.Prelude.{◌≡◌, ℕ, ◌+◌, ◌-◌, ◌*◌, ◌/◌, ◌^◌, ◌<◌, ◌≤◌}
use Rattle.plan_numbers.specs.declared.numbers.Below.{Below}
use Rattle.plan_numbers.specs.declared.numbers.LevelNums.{LevelNums}
use Rattle.plan_numbers.specs.Numbers.{to_below}

-- what stands below a level keeps these limits
pub record IsSized (below : Below) : Type 0 where
  pub some : 1 ≤ below.nodes
  pub most : below.nodes ≤ 256
  pub quorum : 3 * below.faults < below.nodes
  pub least_modulus : 2 ≤ below.modulus
  pub most_modulus : below.modulus ≤ 2 ^ 40
  pub bound : below.bound < below.nodes * 2 ^ 40
  pub bits : below.bits ≤ 42 * below.nodes

-- how many nodes a block has: the spares stand in none
abbrev pub block_nodes : LevelNums → ℕ
block_nodes nums = (nums.nodes - nums.spares) / nums.blocks

-- the numbers of a level keep these limits
pub record IsSizedLevel (nums : LevelNums) : Type 0 where
  pub below : IsSized (to_below nums)
  pub whole : nums.nodes ≡ nums.blocks * block_nodes nums + nums.spares
  pub block : 1 ≤ block_nodes nums
  pub blocks : 3 ≤ nums.blocks
  pub most_blocks : nums.blocks ≤ 16
  pub leaders : 2 ≤ nums.leaders
  pub most_leaders : nums.leaders ≤ 8
  pub most_faults : nums.faults ≤ 85
  pub beat : 6 ≤ nums.beat
  pub most_beat : nums.beat ≤ 261
  pub span : 1 ≤ nums.span
  pub most_span : nums.span ≤ 2 ^ 40
