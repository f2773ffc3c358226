-- The new register of a node of a group, and when no lie matters to it.
use Rattle.std.proofs.Common.{◌≡◌, ℕ, ◌+◌, ◌*◌, ◌/◌, ◌%◌, ◌<◌, List, sym, ap, ◌∙◌, subst, arith}
use Rattle.sync_types.specs.declared.states.Reg.{Reg}
use Rattle.sync_types.specs.States.{State, register_at}
use Rattle.construction.specs.Plans.{group_size}
use Rattle.construction.specs.Votes.{beat_heard}
use Rattle.construction.specs.PhaseKing.{instructed, locked_at, up}
use Rattle.construction.specs.Steps.{register_after}
use Rattle.phase_king.specs.Groups.{IsLockedGroup}
use Rattle.phase_king.proofs.Registers.{locked_register}
use Rattle.plan_numbers.specs.declared.numbers.LevelNums.{LevelNums}
use Rattle.plan_numbers.specs.Numbers.{level_of}
use Rattle.plan_numbers.specs.Sizes.{block_nodes}
use Rattle.shared_board.specs.Senders.{Sent, is_liar, register_of, told_by, outputs_heard}
use Rattle.shared_board.specs.Senders.{values_heard}
use Rattle.shared_board.specs.GroupVotes.{AreNumbers, Contents, HasRoom, lead_heard, beat_of_lead}
use Rattle.shared_board.specs.GroupVotes.{register_heard}
use Rattle.shared_board.proofs.Beats.{beat_is, part_below}

module _ (s : Sent) (nums : LevelNums) (numbers : AreNumbers nums) (first node : ℕ) where
  size : nums.nodes ≡ group_size (level_of nums) (block_nodes nums)
  size = numbers.sized.whole

  outs : List State → List ℕ
  outs lies = outputs_heard s lies first (nums.blocks * block_nodes nums)

  -- a register that is locked in a locked group goes on
  pub locked_heard : (lies : List State) (value : ℕ)
      → IsLockedGroup first nums.nodes nums.faults (is_liar s) (register_of s) value
      → register_of s node ≡ locked_at value
      → register_heard s nums first node lies ≡ locked_at (up nums.modulus value)
  unfolding outs
  locked_heard lies value group own =
      let n : ℕ = block_nodes nums in
      let level = level_of nums in
      ap (λ r. register_after n level r (outs lies) (values_heard s lies first nums.nodes)) own
      ∙ (ap (λ k. register_after n level (locked_at value) (outs lies)
      (values_heard s lies first k)) size
      ∙ locked_register first n level (is_liar s) (register_of s) value
      (subst (λ k. IsLockedGroup first k nums.faults (is_liar s) (register_of s) value) size
      group) (λ u. (register_at s.height (told_by s lies u)).a) (outs lies))

  -- the instruction of the beat heard
  pub obeyed : (lies : List State) (beat : ℕ) (own : Reg) → own ≡ register_of s node
      → beat ≡ beat_heard (level_of nums) (block_nodes nums)
      (outputs_heard s lies first (nums.blocks * block_nodes nums))
      → instructed nums.nodes nums.faults (up nums.modulus) (beat % 3) own
      (values_heard s lies first nums.nodes) (beat / 3) ≡ register_heard s nums first node lies
  obeyed lies beat own e g =
      let vals = values_heard s lies first nums.nodes in
      ap (λ r. instructed nums.nodes nums.faults (up nums.modulus) (beat % 3) r vals (beat / 3)) e
      ∙ (ap (λ b. instructed nums.nodes nums.faults (up nums.modulus) (b % 3)
      (register_of s node) vals (b / 3)) g
      ∙ ap (λ k. instructed k nums.faults (up nums.modulus)
      (beat_heard (level_of nums) (block_nodes nums)
      (outputs_heard s lies first (nums.blocks * block_nodes nums)) % 3)
      (register_of s node) vals
      (beat_heard (level_of nums) (block_nodes nums)
      (outputs_heard s lies first (nums.blocks * block_nodes nums)) / 3)) size)

-- the beat of the lead is the beat heard
pub beat_of_group : (s : Sent) (group : Contents) → HasRoom group → (lies : List State)
    → beat_of_lead s group lies
    ≡ beat_heard (level_of group.nums) (block_nodes group.nums)
    (outputs_heard s lies group.first (group.nums.blocks * block_nodes group.nums))
beat_of_group s group is lies =
    let numbers = is.numbers in
    let nums = group.nums in
    let level = level_of nums in
    let leaders = numbers.sized.leaders in
    sym (beat_is s lies level group.block nums.beat nums.leaders group.first group.intervals
    numbers.beat numbers.leaders is.intervals (omega arith)
    (omega (arith, numbers.leaders, numbers.sized.blocks)))
    ∙ ap (λ n. beat_heard level n (outputs_heard s lies group.first (nums.blocks * n))) is.block

pub beat_below : (s : Sent) (group : Contents) → HasRoom group → (lies : List State)
    → beat_of_lead s group lies < group.nums.beat
beat_below s group is lies =
    let beat = is.numbers.sized.beat in
    part_below s lies group.nums.beat
    (group.first + lead_heard s group lies * group.block) group.block (omega arith)
