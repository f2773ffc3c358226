-- What a level over blocks of a counter means: a counter again, with one more register. The group
-- has the level's blocks, each of as many nodes as the counter below, and after them its spares.
use Rattle.std.specs.Prelude.{ℕ, ◌+◌, ◌*◌, ◌/◌, ◌%◌, ◌^◌, ◌<◌, ◌≤◌, nat_lt, if◌then◌else◌, List}
use Rattle.std.specs.Prelude.{map, Option, unwrap_or, IfSome}
use Rattle.std.specs.List.{range_with_len}
use Rattle.sync_types.specs.declared.states.Reg.{Reg}
use Rattle.sync_types.specs.States.{State, zero_state, register_at}
use Rattle.construction.specs.Plans.{Level, group_size, span_of}
use Rattle.construction.specs.Steps.{state_of, register_after, with_register}
use Rattle.construction.specs.Votes.{block}
use Rattle.counter_core.specs.Meanings.{Meaning}
use Rattle.plan_laws.specs.Level.{LevelPremises}

-- what is heard of the inner outputs of the blocks' nodes, by place; spares have none
abbrev pub outputs_heard : (below : Meaning) → Level → List State → List ℕ
outputs_heard below level heard =
    map (λ u. below.shows (u % below.nodes) (state_of heard u))
    (range_with_len 0 (level.blocks * below.nodes))

-- what is heard of the values of the level's registers, which stand after those of the counter
-- below
abbrev pub values_heard : (below : Meaning) → List State → List (Option ℕ)
values_heard below heard = map (λ s. (register_at below.depth s).a) heard

-- the level's new register of the node at place v
abbrev pub level_register : (below : Meaning) → Level → (v : ℕ) → List State → Reg
level_register below level v heard =
    register_after below.nodes level (register_at below.depth (state_of heard v))
    (outputs_heard below level heard) (values_heard below heard)

-- The new state of the node at place v as one of the counter below: in a block by what is heard of
-- the block. A spare has none, and zero stands in its place.
abbrev pub inner_state : (below : Meaning) → Level → (v : ℕ) → List State → State
inner_state below level v heard =
    if nat_lt v (level.blocks * below.nodes)
    then below.next (v % below.nodes) (block below.nodes (v / below.nodes) heard)
    else zero_state below.depth

-- the counter that a level makes
abbrev pub boosted : Meaning → Level → Meaning
boosted below level = record {
  nodes = group_size level below.nodes;
  faults = level.faults;
  modulus = level.modulus;
  bound = below.bound + span_of level;
  depth = below.depth + 1;
  shows = λ v s. unwrap_or (register_at below.depth s).a 0;
  next = λ v heard. with_register (inner_state below level v heard)
      (level_register below level v heard);
}

-- The lowest level in which its node at a place takes part: that of the block's node, or for a
-- spare this level.
abbrev pub boosted_low : (below : Meaning) → Level → (low : ℕ → ℕ) → (v : ℕ) → ℕ
boosted_low below level low v =
    if nat_lt v (level.blocks * below.nodes) then low (v % below.nodes) else below.depth + 1

-- in range below, and a finite value of the next register is below the modulus
abbrev pub BoostedRange : (in_range : State → Type 0) (depth modulus : ℕ) → State → Type 0
BoostedRange in_range depth modulus state =
    in_range state × IfSome (register_at depth state).a (λ a. a < modulus)

-- the level may stand on this counter, and the two keep within the limits of counters
pub record StandsOn (below : Meaning) (level : Level) : Type 0 where
  pub stands : LevelPremises level below.nodes below.faults below.modulus
  pub most_nodes : group_size level below.nodes ≤ 256
  pub least_modulus : 2 ≤ level.modulus
  pub most_modulus : level.modulus ≤ 2 ^ 40
