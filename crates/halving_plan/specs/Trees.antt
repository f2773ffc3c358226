-- A group halved again and again, and its numbers. There is no premise: each such tree is a
-- counter.
use Rattle.std.specs.Prelude.{ℕ, zero, suc, ◌+◌, ◌-◌, ◌*◌, ◌/◌, max}
use Rattle.halving_plan.specs.Halves.{Halves, left_wait, right_wait}

-- One node, or a left and a right half and after them two spare nodes, and so many more.
pub data Tree : Type 0 where
  One : Tree
  Split : (left right : Tree) (spares : ℕ) → Tree

-- F: however these faults fall, one half has no more than it tolerates
abbrev pub tree_faults : Tree → ℕ
tree_faults One = 0
tree_faults (Split left right spares) = tree_faults left + tree_faults right + 1

-- N, at least 3 F + 1
abbrev pub tree_nodes : Tree → ℕ
tree_nodes One = 1
tree_nodes (Split left right spares) = tree_nodes left + tree_nodes right + 2 + spares

-- how many levels stand on the lowest node
abbrev pub tree_height : Tree → ℕ
tree_height One = 0
tree_height (Split left right spares) = max (tree_height left) (tree_height right) + 1

-- the sizes of the level over two halves
abbrev pub halves_of : (left right : Tree) (spares : ℕ) → Halves
halves_of left right spares = record {
  left_nodes = tree_nodes left;
  left_faults = tree_faults left;
  right_nodes = tree_nodes right;
  right_faults = tree_faults right;
  nodes = tree_nodes left + tree_nodes right + 2 + spares;
}

-- the bound of a level over two halves, from those of the halves
abbrev pub bound_over : Halves → (left right : ℕ) → ℕ
bound_over halves left right = max (left + left_wait halves) (right + right_wait halves)

-- T: from this configuration on the tree counts
abbrev pub tree_bound : Tree → ℕ
tree_bound One = 0
tree_bound (Split left right spares) =
    bound_over (halves_of left right spares) (tree_bound left) (tree_bound right)

-- of f faults the left half takes so many, and the right half what is left but for one
abbrev pub left_part : ℕ → ℕ
left_part f = 5 * f / 13

abbrev pub right_part : ℕ → ℕ
right_part f = f - 1 - left_part f

-- the tree of f faults, in which each group's faults are so parted; so high at most
abbrev pub halved_within : (height f spares : ℕ) → Tree
halved_within zero f spares = One
halved_within (suc height) zero spares = One
halved_within (suc height) (suc f) spares =
    Split (halved_within height (left_part (suc f)) 0) (halved_within height (right_part (suc f)) 0)
    spares

-- The tree of so many faults that plans have: 3 F + 1 nodes, and so many spares more in the whole
-- group. A tree of no faults is one node.
abbrev pub tree_for : (faults spares : ℕ) → Tree
tree_for faults spares = halved_within faults faults spares
