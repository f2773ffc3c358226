-- The line of a group in which a node is: what the node holds of it, and what it makes of what it
-- hears of it.
use Rattle.std.specs.Prelude.{ℕ, ◌+◌, ◌-◌, ◌%◌, nat_le, List, [], ◌∷◌, Bool, true, false}
use Rattle.std.specs.Prelude.{codes, decimal}
use Rattle.std.specs.List.{concat}
use Rattle.counting.specs.Values.{count_of, least_above}
use Rattle.sync_types.specs.FaultSets.{is_in}
use Rattle.sync_types.specs.States.{State}
use Rattle.sync_types.specs.declared.states.Reg.{Reg}
use Rattle.construction.specs.Steps.{state_of}
use Rattle.halving_plan.specs.Halves.{right_share, right_period, faults_of}
use Rattle.halving_plan.specs.Level.{faults_in}
use Rattle.halving_plan.specs.LevelStates.{LevelState, shown, saw, backed, follows_left}
use Rattle.halving_plan.specs.LevelStates.{instruction_of, king_of, values_of}
use Rattle.halving_plan.specs.Groups.{HalvingGroup, sizes_of, right_of}
use Rattle.halving_plan.specs.GroupHearing.{level_state_in, level_states_in, outputs_in}
use Rattle.trace.specs.declared.headings.Heading.{Heading}
use Rattle.trace.specs.declared.sides.Side.{Side}
use Rattle.trace.specs.declared.sides.Side.TheVariants as which
use Rattle.trace.specs.Words.{number_or_none, faulty_word, mark_word, turn_word, all_have}
use Rattle.trace.specs.Groups.{SidedGroup}

-- ---- the group, and what the node holds of it

-- which group of the plan it is
abbrev pub side_word : Side → List ℕ
side_word which.Whole = codes " whole "
side_word which.Left = codes " left "
side_word which.Right = codes " right "

-- a group is sound if no more of its nodes are faulty than it tolerates
abbrev pub is_sound : HalvingGroup → (faulty : List ℕ) → Bool
is_sound group faulty = nat_le (faults_in group.first group.nodes (is_in faulty)) group.faults

abbrev pub sound_word : Bool → List ℕ
sound_word true = codes " sound"
sound_word false = codes " unsound"

-- whether what was seen of the left half is trusted
abbrev pub trust_word : Bool → List ℕ
trust_word true = codes " trusted"
trust_word false = codes " untrusted"

-- one of the two halves
abbrev pub half_word : (left : Bool) → List ℕ
half_word true = codes " left"
half_word false = codes " right"

-- in whose share of the left half's period a number is that the left half showed
abbrev pub is_left_share : HalvingGroup → (seen : ℕ) → Bool
is_left_share group seen = nat_le (right_share (sizes_of group)) seen

abbrev pub held_part : HalvingGroup → (faulty : List ℕ) → LevelState → List ℕ
held_part group faulty own =
    concat (sound_word (is_sound group faulty) ∷ codes " seen " ∷ decimal own.seen
    ∷ trust_word own.trusted ∷ codes " share" ∷ half_word (is_left_share group own.seen) ∷ [])

-- ---- what the node makes of what it hears of all nodes

-- whether what the node saw is backed
abbrev pub backed_word : Bool → List ℕ
backed_word true = codes " backed"
backed_word false = codes " unbacked"

-- an instruction of the phase king that a half has, and whose phase it is of
abbrev pub instruction_part : HalvingGroup → (left : Bool) → (instruction : ℕ) → List ℕ
instruction_part group left instruction =
    concat (codes " follows" ∷ half_word left ∷ codes " instruction " ∷ decimal instruction
    ∷ turn_word (instruction % 3)
    ∷ codes " king " ∷ decimal (group.first + king_of (sizes_of group) left instruction) ∷ [])

abbrev pub heard_part : HalvingGroup → (own : LevelState) → (heard : List State) → List ℕ
heard_part group own heard =
    let halves = sizes_of group in
    let states = level_states_in group heard in
    let is_backed = backed halves own states in
    let left = follows_left halves own is_backed in
    let right = shown (right_period halves) (outputs_in (right_of group) heard) in
    concat (codes " saw " ∷ decimal (saw own.seen states) ∷ backed_word is_backed
    ∷ instruction_part group left (instruction_of halves left own.seen right)
    ∷ codes " same " ∷ decimal (count_of (values_of states) own.register.a)
    ∷ codes " least " ∷ number_or_none (least_above group.faults (values_of states)) ∷ [])

abbrev pub heard_if : (hears : Bool) → HalvingGroup → (own : LevelState) → (heard : List State)
    → List ℕ
heard_if true group own heard = heard_part group own heard
heard_if false group own heard = []

-- ---- the line

-- Of a heading, with the faulty nodes and the configuration. If no round follows, nothing is heard.
module _ (h : Heading) (faulty : List ℕ) (config : List State) where
  -- the beginning of a group's line, up to the node's own register there, which this is
  abbrev pub group_front : SidedGroup → Reg → List ℕ
  group_front sided own =
      let group = sided.group in
      concat (codes "at " ∷ decimal h.at ∷ codes " node " ∷ decimal h.node ∷ faulty_word h.faulty
      ∷ side_word sided.side ∷ decimal group.first
      ∷ codes " " ∷ decimal (group.first + group.nodes - 1)
      ∷ codes " value " ∷ number_or_none own.a
      ∷ mark_word own.d
      (all_have group.register group.first group.nodes faulty config own.a) ∷ [])

  -- from what the node hears of all nodes
  abbrev pub group_line : (hears : Bool) → (heard : List State) → SidedGroup → List ℕ
  group_line hears heard sided =
      let group = sided.group in
      let own = level_state_in group (state_of config h.node) in
      concat (group_front sided own.register ∷ held_part group faulty own
      ∷ heard_if hears group own heard ∷ codes "\n" ∷ [])
