-- What a node's state holds of one level over two halves, and the step of it.
use Rattle.std.specs.Prelude.{ℕ, ◌+◌, ◌-◌, ◌/◌, ◌%◌, List, map, count_by, Bool, false, ◌&&◌, ◌||◌}
use Rattle.std.specs.Prelude.{if◌then◌else◌, nat_eq, nat_le, Option}
use Rattle.sync_types.specs.declared.states.Reg.{Reg}
use Rattle.sync_types.specs.States.{zero_register}
use Rattle.counting.specs.Values.{majority_or_zero}
use Rattle.construction.specs.PhaseKing.{instructed}
use Rattle.halving_plan.specs.Halves.{Halves, faults_of, right_share, left_period, right_period}

-- A register of the phase king; what the left half showed a round ago; and whether that has been
-- backed since it was 0, and went on by one each round.
pub record LevelState : Type 0 where
  pub register : Reg
  pub seen : ℕ
  pub trusted : Bool

abbrev pub zero_level_state : LevelState
zero_level_state = record { register = zero_register; seen = 0; trusted = false }

-- what a half shows that counts modulo a period: the output of more than half of its nodes
abbrev pub shown : (period : ℕ) → List ℕ → ℕ
shown period outputs = majority_or_zero outputs % period

-- how many nodes saw this
abbrev pub saw : ℕ → List LevelState → ℕ
saw seen states = count_by (λ p. nat_eq seen p.seen) states

-- So many saw what the node saw. Whatever is backed at two correct nodes is one.
abbrev pub backed : Halves → (own : LevelState) → List LevelState → Bool
backed halves own states = nat_le (halves.nodes - faults_of halves) (saw own.seen states)

-- Whether the node trusts the left half, which shows this now: what was seen of it is backed, and
-- goes on by one, and the node trusted it before, or saw it at 0.
abbrev pub trusts : (own : LevelState) (left : ℕ) (backed : Bool) → Bool
trusts own left backed =
    backed && (nat_eq left (own.seen + 1) && (own.trusted || nat_eq own.seen 0))

-- a node that trusts the left half follows it in the left half's share
abbrev pub follows_left : Halves → (own : LevelState) (backed : Bool) → Bool
follows_left halves own backed =
    backed && (own.trusted && nat_le (right_share halves) own.seen)

-- An instruction of the phase king, among those of a half's first kings. The left half's is by what
-- was seen of it; the right half's is what that shows now.
abbrev pub instruction_of : Halves → (left : Bool) → (seen right : ℕ) → ℕ
instruction_of halves left seen right = if left then seen - right_share halves else right

-- each king has three instructions; its place in the group
abbrev pub king_of : Halves → (left : Bool) → (instruction : ℕ) → ℕ
king_of halves left instruction =
    if left then instruction / 3 else halves.left_nodes + instruction / 3

-- the values of the registers heard
abbrev pub values_of : List LevelState → List (Option ℕ)
values_of states = map (λ p. p.register.a) states

-- the register after the instruction that the node follows
abbrev pub register_after : Halves → (next : ℕ → ℕ) (own : LevelState) (left : Bool) (right : ℕ)
    (states : List LevelState)
    → Reg
register_after halves next own left right states =
    let instruction = instruction_of halves left own.seen right in
    instructed halves.nodes (faults_of halves) next (instruction % 3) own.register
    (values_of states) (king_of halves left instruction)

-- the level state after a round, from what is heard of the outputs of the halves' nodes and of the
-- level states of all nodes
abbrev pub level_state_after : Halves → (next : ℕ → ℕ) (own : LevelState)
    (left_outputs right_outputs : List ℕ) (states : List LevelState)
    → LevelState
level_state_after halves next own left_outputs right_outputs states =
    let left = shown (left_period halves) left_outputs in
    let right = shown (right_period halves) right_outputs in
    let is_backed = backed halves own states in record {
      register = register_after halves next own (follows_left halves own is_backed) right states;
      seen = left;
      trusted = trusts own left is_backed;
    }
