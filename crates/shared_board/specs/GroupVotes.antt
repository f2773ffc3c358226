-- What is counted and known of a group of a level, from its first node on.
use Rattle.std.specs.Prelude.{◌≡◌, ℕ, ◌+◌, ◌*◌, ◌%◌, ◌<◌, ◌≤◌, List, length, map, slice_index_or}
use Rattle.std.specs.Prelude.{Bool, true, false, All, IfSome, Option, Some, None}
use Rattle.std.specs.List.{range_with_len}
use Rattle.counting.specs.Values.{least_above}
use Rattle.sync_types.specs.declared.states.Reg.{Reg}
use Rattle.sync_types.specs.States.{State, register_at}
use Rattle.construction.specs.Plans.{leaders_of, beat_of, span_of, interval_of}
use Rattle.construction.specs.PhaseKing.{locked_at}
use Rattle.construction.specs.Steps.{register_after}
use Rattle.majority_votes.specs.Votes.{Votes}
use Rattle.phase_king.specs.Groups.{IsLockedGroup}
use Rattle.plan_numbers.specs.declared.numbers.LevelNums.{LevelNums}
use Rattle.plan_numbers.specs.Numbers.{level_of}
use Rattle.plan_numbers.specs.Sizes.{block_nodes, IsSizedLevel}
use Rattle.shared_board.specs.Senders.{Sent, is_liar, register_of, values_of, parts_of}
use Rattle.shared_board.specs.Senders.{outputs_heard, values_heard}
use Rattle.shared_board.specs.Votes.{IsKnown, AreVotes, block_part, blocks_lead}
use Rattle.shared_board.specs.declared.group.Group.{Group}

-- the numbers are those of their level, and in their limits
pub record AreNumbers (nums : LevelNums) : Type 0 where
  pub sized : IsSizedLevel nums
  pub leaders : nums.leaders ≡ leaders_of (level_of nums)
  pub beat : nums.beat ≡ beat_of (level_of nums)
  pub span : nums.span ≡ span_of (level_of nums)

-- what a group keeps, the lists without the room after them
pub record Contents : Type 0 where
  pub nums : LevelNums
  pub first : ℕ
  pub block : ℕ
  pub intervals : List ℕ
  pub locked : Option ℕ
  pub is_settled : Bool
  pub votes : List (Option ℕ)
  pub lead : Option ℕ
  pub beat : Option ℕ
  pub least : Option (Option ℕ)
  pub pointers : List Votes
  pub parts : List Votes
  pub values : Votes

abbrev pub contents : Group → Contents
contents group = record {
  nums = group.nums;
  first = group.first;
  block = group.block;
  intervals = group.intervals.items;
  locked = group.locked;
  is_settled = group.is_settled;
  votes = group.votes.items;
  lead = group.lead;
  beat = group.beat;
  least = group.least;
  pointers = group.pointers.items;
  parts = group.parts.items;
  values = group.values;
}

-- room for a group: a tally for each block's pointers, for each leader's parts, and for the values
pub record HasRoom (group : Contents) : Type 0 where
  pub numbers : AreNumbers group.nums
  pub block : group.block ≡ block_nodes group.nums
  pub intervals : group.intervals
      ≡ map (interval_of group.nums.beat group.nums.leaders) (range_with_len 0 group.nums.blocks)
  pub votes : length group.votes ≡ group.nums.blocks
  pub pointers : length group.pointers ≡ group.nums.blocks
  pub pointers_room : All (λ t. group.block ≤ t.capacity) group.pointers
  pub parts : length group.parts ≡ group.nums.leaders
  pub parts_room : All (λ t. group.block ≤ t.capacity) group.parts
  pub values_room : group.nums.nodes ≤ group.values.capacity

-- the lead and the beat heard of the blocks
abbrev pub lead_heard : Sent → Contents → List State → ℕ
lead_heard s group lies =
    blocks_lead s lies group.intervals group.nums.leaders group.first group.block

abbrev pub beat_of_lead : Sent → Contents → List State → ℕ
beat_of_lead s group lies =
    block_part s lies group.nums.beat (group.first + lead_heard s group lies * group.block)
    group.block

-- What is counted of a group and known of it. Parts are counted of the lead alone, if it is known,
-- and values if the beat is not known to be of kind 2, which counts none.
pub record AreCounted (s : Sent) (group : Contents) : Type 0 where
  pub votes : AreVotes s group.intervals group.nums.leaders group.first group.block
      group.votes group.pointers
  pub lead : IsKnown s (lead_heard s group) group.lead
  pub beat : IsKnown s (beat_of_lead s group) group.beat
  pub parts : group.beat ≡ None → (b : ℕ) (none : Votes) → b < group.nums.leaders
      → IfSome group.lead (λ lead. b ≡ lead)
      → (slice_index_or group.parts b none).values
      ≡ parts_of s group.nums.beat (group.first + b * group.block) group.block
  pub values : IfSome group.beat (λ beat. beat % 3 < 2)
      → group.values.values ≡ values_of s group.first group.nums.nodes
  pub least : IsKnown s
      (λ lies. least_above group.nums.faults (values_heard s lies group.first group.nums.nodes))
      group.least

-- All registers of a settled group are locked, those of its liars too; of any other one, what the
-- liars leave is counted and known.
pub record Stands (s : Sent) (group : Contents) : Type 0 where
  pub room : HasRoom group
  pub within : group.first + group.nums.nodes ≤ length s.registers
  pub locked : IfSome group.locked
      (IsLockedGroup group.first group.nums.nodes group.nums.faults (is_liar s) (register_of s))
  pub settled : group.is_settled ≡ true → (value : ℕ) × (group.locked ≡ Some value)
      × ((u : ℕ) → group.first ≤ u → u < group.first + group.nums.nodes
      → register_of s u ≡ locked_at value)
  pub counted : group.is_settled ≡ false → AreCounted s group

-- the same of a group as the code has it
abbrev pub IsGroup : Group → Type 0
IsGroup group = HasRoom (contents group)

abbrev pub StandsFor : Sent → Group → Type 0
StandsFor s group = Stands s (contents group)

-- the new register of a node of the group, from what liars say to it
abbrev pub register_heard : Sent → LevelNums → (first node : ℕ) → (lies : List State) → Reg
register_heard s nums first node lies =
    register_after (block_nodes nums) (level_of nums) (register_of s node)
    (outputs_heard s lies first (nums.blocks * block_nodes nums))
    (values_heard s lies first nums.nodes)

-- finite values of registers are below the modulus
abbrev pub AreBelow : (modulus : ℕ) → List Reg → Type 0
AreBelow modulus registers = All (λ r. IfSome r.a (λ a. a < modulus)) registers

-- lies have a register of the level, the value of which is below the modulus if it is finite
abbrev pub AreLies : (height modulus : ℕ) → List State → Type 0
AreLies height modulus lies =
    All (λ s. (height < length s.registers) × IfSome (register_at height s).a (λ a. a < modulus))
    lies
