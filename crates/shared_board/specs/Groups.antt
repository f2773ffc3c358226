-- The groups of a plan, each named by its level and its first node, and what is counted in them.
use Rattle.std.specs.Prelude.{ℕ, ◌+◌, ◌*◌, ◌/◌, ◌%◌, ◌==◌, List, [], ◌∷◌, length, map, take}
use Rattle.std.specs.Prelude.{if◌then◌else◌}
use Rattle.std.specs.List.{range_with_len, flat_map}
use Rattle.sync_types.specs.States.{State, register_at}
use Rattle.construction.specs.Plans.{Level, group_size, nodes_of}
use Rattle.construction.specs.Shown.{shown}
use Rattle.sync_types.specs.declared.states.Reg.{Reg}
use Rattle.construction.specs.Steps.{state_of}
use Rattle.construction.specs.Steps.{register_after}
use Rattle.plan_laws.specs.Stretches.{stretch}

-- a group: its level, how many levels stand below, how many nodes a block has, and the first node
pub record Group : Type 0 where
  pub level : Level
  pub below : ℕ
  pub block : ℕ
  pub first : ℕ

-- the groups of levels from a first node on: that of the top level, and after it those of its first
-- block, those of its second one, and so on
abbrev pub groups_of : List Level → (first : ℕ) → List Group
groups_of [] first = []
groups_of (level ∷ below) first =
    let n = nodes_of below in
    record { level = level; below = length below; block = n; first = first }
    ∷ flat_map (λ b. groups_of below (first + b * n)) (range_with_len 0 level.blocks)

-- how many these are
abbrev pub group_count : List Level → ℕ
group_count [] = 0
group_count (level ∷ below) = 1 + level.blocks * group_count below

-- of the groups from `first` on, the one that stands above l levels and has the node at a place
abbrev pub group_at : List Level → (first place l : ℕ) → Group
group_at [] first place l =
    record {
      level = record { blocks = 0; faults = 0; modulus = 0; spares = 0 };
      below = 0;
      block = 0;
      first = 0;
    }
group_at (level ∷ below) first place l =
    let n = nodes_of below in
    if l == length below then
    record { level = level; below = length below; block = n; first = first }
    else group_at below (first + place / n * n) (place % n) l

-- where it stands among these groups
abbrev pub index_at : List Level → (place l : ℕ) → ℕ
index_at [] place l = 0
index_at (level ∷ below) place l =
    let n = nodes_of below in
    if l == length below then 0
    else 1 + place / n * group_count below + index_at below (place % n) l

-- how many nodes a group has
abbrev pub nodes_in : Group → ℕ
nodes_in group = group_size group.level group.block

-- the new register of node u in a group, by what it hears of all nodes
abbrev pub register_for : Group → (heard : List State) → (u : ℕ) → Reg
register_for group heard u =
    let mine = stretch (nodes_in group) group.first heard in
    register_after group.block group.level (register_at group.below (state_of heard u))
    (map (shown group.below) (take (group.level.blocks * group.block) mine))
    (map (λ s. (register_at group.below s).a) mine)
