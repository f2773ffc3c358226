-- The sizes of a level over two halves, each of which is a counter of its own.
use Rattle.std.specs.Prelude.{ℕ, ◌+◌, ◌*◌, ◌/◌, ◌<◌, ◌≤◌}

-- A group of so many nodes: first those of the left half, then those of the right half, and spares
-- after them. Each half tolerates so many faults.
pub record Halves : Type 0 where
  pub left_nodes : ℕ
  pub left_faults : ℕ
  pub right_nodes : ℕ
  pub right_faults : ℕ
  pub nodes : ℕ

-- how many faults the group tolerates: however they fall, one half has no more than it tolerates
abbrev pub faults_of : Halves → ℕ
faults_of halves = halves.left_faults + halves.right_faults + 1

-- how many instructions the phases of f + 1 kings have
abbrev pub instructions : ℕ → ℕ
instructions f = 3 * (f + 1)

-- the right half counts modulo this: it has the phases of its first kings again and again
abbrev pub right_period : Halves → ℕ
right_period halves = instructions halves.right_faults

-- A period of the left half has two shares. The first one is the right half's: two rounds longer
-- than a period of that.
abbrev pub right_share : Halves → ℕ
right_share halves = right_period halves + 2

-- the other one has the phases of the left half's first kings
abbrev pub left_share : Halves → ℕ
left_share halves = instructions halves.left_faults

-- the left half counts modulo this
abbrev pub left_period : Halves → ℕ
left_period halves = right_share halves + left_share halves

-- if the left half counts, the registers are locked so many rounds later
abbrev pub left_wait : Halves → ℕ
left_wait halves = 2 * left_period halves

-- of so many phases of one king of the right half one is free of the left half's share
abbrev pub phases : Halves → ℕ
phases halves = (halves.left_faults + 1) / (halves.right_faults + 1) + 2

-- if the right half counts, the registers are locked so many rounds later
abbrev pub right_wait : Halves → ℕ
right_wait halves = phases halves * right_period halves + 2

-- the premises: each half and the group tolerate their faults, and the halves lie in the group
pub record Halved (halves : Halves) : Type 0 where
  pub left : 3 * halves.left_faults < halves.left_nodes
  pub right : 3 * halves.right_faults < halves.right_nodes
  pub room : halves.left_nodes + halves.right_nodes ≤ halves.nodes
  pub quorum : 3 * faults_of halves < halves.nodes
