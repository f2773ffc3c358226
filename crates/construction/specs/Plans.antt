-- A plan and its numbers.
use Rattle.std.specs.Prelude.{ℕ, ◌+◌, ◌*◌, ◌%◌, ◌^◌, nat_lt, if◌then◌else◌, List, [], ◌∷◌, length}
use Rattle.std.specs.Int.{div_ceil}
use Rattle.construction.specs.Widths.{width}

-- a level: so many blocks, so many faults that it tolerates, the modulus that it counts by, and so
-- many spare nodes after the blocks
pub record Level : Type 0 where
  pub blocks : ℕ
  pub faults : ℕ
  pub modulus : ℕ
  pub spares : ℕ

-- A base modulus, and levels, the top one first. The version is that of the texts in which the plan
-- is written; no number, step or run looks at it.
pub record Plan : Type 0 where
  pub version : ℕ
  pub base : ℕ
  pub levels : List Level

-- leaders: half of the blocks, rounded up
abbrev pub leaders_of : Level → ℕ
leaders_of level = div_ceil level.blocks 2

-- beat: three rounds for each of F + 2 kings
abbrev pub beat_of : Level → ℕ
beat_of level = 3 * (level.faults + 2)

-- the interval of block i: for how many outputs it keeps its pointer
abbrev pub interval_of : (beat leaders i : ℕ) → ℕ
interval_of beat leaders i = beat * (2 * leaders) ^ i

-- span: in so many rounds a level settles, once its blocks count
abbrev pub span_of : Level → ℕ
span_of level = interval_of (beat_of level) (leaders_of level) level.blocks

-- the nodes of a group of a level: its blocks, of n nodes each, and after them its spares
abbrev pub group_size : Level → (n : ℕ) → ℕ
group_size level n = level.blocks * n + level.spares

-- nodes: one, or a group of the top level
abbrev pub nodes_of : List Level → ℕ
nodes_of [] = 1
nodes_of (level ∷ below) = group_size level (nodes_of below)

-- The level from which on the node at place v takes part: that of which it is a spare, or 0 if it
-- is none. It has the fields of this level and of those above; level 0 is the base.
abbrev pub low_of : List Level → (v : ℕ) → ℕ
low_of [] v = 0
low_of (level ∷ below) v =
    let n = nodes_of below in
    if nat_lt v (level.blocks * n) then low_of below (v % n) else length below + 1

-- bound: the sum of the spans
abbrev pub bound_of : List Level → ℕ
bound_of [] = 0
bound_of (level ∷ below) = bound_of below + span_of level

-- the faults that the top level tolerates
abbrev pub faults_of : List Level → ℕ
faults_of [] = 0
faults_of (level ∷ below) = level.faults

-- the modulus of the top level
abbrev pub modulus_of : ℕ → List Level → ℕ
modulus_of base [] = base
modulus_of base (level ∷ below) = level.modulus

-- bits of a state with all fields: those of the number, and for each level those of a value,
-- infinity among them, and a mark
abbrev pub bits_of : ℕ → List Level → ℕ
bits_of base [] = width base
bits_of base (level ∷ below) = bits_of base below + (width (level.modulus + 1) + 1)

module _ (plan : Plan) where
  -- N
  abbrev pub plan_nodes : ℕ
  plan_nodes = nodes_of plan.levels

  -- F
  abbrev pub plan_faults : ℕ
  plan_faults = faults_of plan.levels

  -- C
  abbrev pub plan_modulus : ℕ
  plan_modulus = modulus_of plan.base plan.levels

  -- T
  abbrev pub plan_bound : ℕ
  plan_bound = bound_of plan.levels

  abbrev pub plan_bits : ℕ
  plan_bits = bits_of plan.base plan.levels

  -- the level from which on node v takes part
  abbrev pub plan_low : ℕ → ℕ
  plan_low v = low_of plan.levels v

  -- how many registers a state has
  abbrev pub plan_depth : ℕ
  plan_depth = length plan.levels
