-- What the numbers of a level are to each other, and how large they are.
use Rattle.std.proofs.Common.{◌≡◌, ℕ, ◌-◌, ◌*◌, ◌/◌, ◌^◌, ◌<◌, ◌≤◌, sym, ap, ◌∙◌, subst, arith}
use Rattle.std.proofs.lemmas.Nat.{mul-le}
use Rattle.construction.specs.Plans.{group_size, leaders_of, beat_of, span_of, interval_of}
use Rattle.leader_pointers.proofs.Intervals.{interval_le}
use Rattle.plan_numbers.specs.declared.numbers.Below.{Below}
use Rattle.plan_numbers.specs.declared.numbers.LevelNums.{LevelNums}
use Rattle.plan_numbers.specs.Numbers.{level_of}
use Rattle.plan_numbers.specs.Sizes.{IsSizedLevel}
use Rattle.plan_numbers.proofs.Accepted.{meets, level_sized, block_is}
use Rattle.boost_step.specs.Numbers.{AreNumbersOver, AreNumbers, block_nodes, in_blocks}

pub record Related (nums : LevelNums) : Type 0 where
  pub sized : IsSizedLevel nums
  pub nodes : nums.nodes ≡ group_size (level_of nums) (block_nodes nums)
  pub some : 1 ≤ block_nodes nums
  pub three : 3 ≤ in_blocks nums
  pub leaders : nums.leaders ≡ leaders_of (level_of nums)
  pub beat : nums.beat ≡ beat_of (level_of nums)
  pub span : nums.span ≡ span_of (level_of nums)
  pub faults : 3 * nums.faults < nums.nodes

-- a block has as many nodes as stand below
pub block_nodes_below : (below : Below) (nums : LevelNums) → AreNumbersOver below nums
    → block_nodes nums ≡ below.nodes
block_nodes_below below nums are =
    let met = meets below (level_of nums) are.accepted in
    let three = met.blocks in
    ap (λ (m : LevelNums). (m.nodes - m.spares) / nums.blocks) are.numbers
    ∙ block_is nums.blocks below.nodes nums.spares (omega arith)

pub related : (nums : LevelNums) → AreNumbers nums → Related nums
related nums (below, are) =
    let met = meets below (level_of nums) are.accepted in
    let sized : IsSizedLevel nums =
    subst IsSizedLevel (sym are.numbers) (level_sized below (level_of nums) are.sized met) in
    let many : 3 * 1 ≤ nums.blocks * block_nodes nums =
    mul-le 3 1 nums.blocks (block_nodes nums) met.blocks sized.block in
    record {
      sized = sized;
      nodes = sized.whole;
      some = sized.block;
      three = omega arith;
      leaders = ap (λ (m : LevelNums). m.leaders) are.numbers;
      beat = ap (λ (m : LevelNums). m.beat) are.numbers;
      span = ap (λ (m : LevelNums). m.span) are.numbers;
      faults = sized.below.quorum;
    }

-- intervals up to that past the last block are no longer than the span
pub interval_most : (nums : LevelNums) → Related nums → (i : ℕ) → i ≤ nums.blocks
    → interval_of nums.beat nums.leaders i ≤ 2 ^ 40
interval_most nums r i le =
    let span : nums.span ≡ interval_of nums.beat nums.leaders nums.blocks =
    r.span
    ∙ (ap (λ b. interval_of b (leaders_of (level_of nums)) nums.blocks) (sym r.beat)
    ∙ ap (λ m. interval_of nums.beat m nums.blocks) (sym r.leaders)) in
    let some : 1 ≤ nums.leaders = omega (arith, r.sized.leaders) in
    omega (arith, span, r.sized.most_span, interval_le nums.beat nums.leaders i nums.blocks some le)
