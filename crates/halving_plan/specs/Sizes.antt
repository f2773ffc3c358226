-- How many bits and bytes the states of a plan's nodes take, and how many levels there are.
use Rattle.std.specs.Prelude.{◌≡◌, ℕ, ◌+◌, ◌<◌, ◌≤◌, max, sum_by}
use Rattle.std.specs.Int.{div_ceil}
use Rattle.construction.specs.Widths.{width}
use Rattle.state_codec.specs.Shapes.{bits_in}
use Rattle.halving_plan.specs.Halves.{Halves, left_period, right_period}
use Rattle.halving_plan.specs.Trees.{Tree, One, Split, tree_height, halves_of}
use Rattle.halving_plan.specs.Runs.{Fields}
use Rattle.halving_plan.specs.Plans.{HalvingNumbers, IsAccepted, tree_of}
use Rattle.halving_plan.specs.Fields.{fields_of}
use Rattle.halving_plan.specs.Laws.{machine_in}

-- bits of a register: those of a value below the modulus, or infinite, and that of the mark
abbrev pub register_bits : (modulus : ℕ) → ℕ
register_bits modulus = width (modulus + 1) + 1

-- bits of a state with these fields
abbrev pub fields_bits : Fields → ℕ
fields_bits fields = width fields.base + sum_by register_bits fields.moduli

-- bits of the states of node v
abbrev pub node_bits : HalvingNumbers → (v : ℕ) → ℕ
node_bits plan v = fields_bits (fields_of plan v)

-- and the bytes that they fill, the last one perhaps in part
abbrev pub node_bytes : HalvingNumbers → (v : ℕ) → ℕ
node_bytes plan v = div_ceil (node_bits plan v) 8

-- bits of the registers of a level
abbrev pub level_bits : Halves → (modulus : ℕ) → ℕ
level_bits halves modulus = register_bits modulus + register_bits (left_period halves)

-- the most bits that the states of a node in a tree have
abbrev pub most_bits : (tree : Tree) (modulus : ℕ) → ℕ
most_bits One modulus = width modulus
most_bits (Split left right spares) modulus =
    let halves = halves_of left right spares in
    level_bits halves modulus
    + max (most_bits left (left_period halves)) (most_bits right (right_period halves))

abbrev pub state_bits : HalvingNumbers → ℕ
state_bits plan = most_bits (tree_of plan) plan.modulus

-- and the bytes that they fill
abbrev pub state_bytes : HalvingNumbers → ℕ
state_bytes plan = div_ceil (state_bits plan) 8

abbrev pub levels_of : HalvingNumbers → ℕ
levels_of plan = tree_height (tree_of plan)

-- the most of the first n numbers
pub record IsMost (number : ℕ → ℕ) (n most : ℕ) : Type 0 where
  pub each : (v : ℕ) → v < n → number v ≤ most
  pub place : ℕ
  pub inside : place < n
  pub reached : number place ≡ most

-- of an accepted plan's nodes the one of most bits has so many
abbrev pub BitsAreMost : Type 0
BitsAreMost = (plan : HalvingNumbers) → IsAccepted plan
    → IsMost (node_bits plan) plan.nodes (state_bits plan)

-- so many bits the states have that the plan's machine reads and writes
abbrev pub BitsAreWritten : Type 0
BitsAreWritten = (plan : HalvingNumbers) → IsAccepted plan → (v : ℕ)
    → bits_in ((machine_in plan).fields v) ≡ node_bits plan v
