-- A group of nodes that is a tree or a half in one, wherever it begins: its numbers, and its
-- halves.
use Rattle.std.specs.Prelude.{◌≡◌, ℕ, ◌+◌, ◌-◌, ◌*◌, ◌^◌, ◌<◌, ◌≤◌, nat_lt, if◌then◌else◌}
use Rattle.std.specs.Prelude.{Option, Some, None}
use Rattle.halving_plan.specs.Halves.{Halves, left_period, right_period}
use Rattle.halving_plan.specs.Trees.{Tree, tree_for, left_part, right_part}
use Rattle.halving_plan.specs.Steps.{tree_depth}
use Rattle.halving_plan.specs.Plans.{HalvingNumbers}

-- its first node, how many nodes there are and how many of them may be faulty, the modulus that
-- they count by, and the index of the group's first register in a state
pub record HalvingGroup : Type 0 where
  pub first : ℕ
  pub nodes : ℕ
  pub faults : ℕ
  pub modulus : ℕ
  pub register : ℕ

-- the tree that a group is
abbrev pub tree_in : HalvingGroup → Tree
tree_in group = tree_for group.faults (group.nodes - (3 * group.faults + 1))

-- what is true of each group of a plan: it is a node alone, or tolerates its faults
pub record IsGroup (group : HalvingGroup) : Type 0 where
  pub last : group.first + group.nodes ≤ 256
  pub quorum : 3 * group.faults < group.nodes
  pub single : group.faults ≡ 0 → group.nodes ≡ 1
  pub least_modulus : 2 ≤ group.modulus
  pub most_modulus : group.modulus ≤ 2 ^ 40
  pub register : group.register + 2 * group.faults ≤ 170

-- the sizes of the level over the group's halves
abbrev pub sizes_of : HalvingGroup → Halves
sizes_of group = record {
  left_nodes = 3 * left_part group.faults + 1;
  left_faults = left_part group.faults;
  right_nodes = 3 * right_part group.faults + 1;
  right_faults = right_part group.faults;
  nodes = group.nodes;
}

-- the halves: the first nodes of the group, and those after them
abbrev pub left_of : HalvingGroup → HalvingGroup
left_of group = record {
  first = group.first;
  nodes = 3 * left_part group.faults + 1;
  faults = left_part group.faults;
  modulus = left_period (sizes_of group);
  register = group.register + 2;
}

abbrev pub right_of : HalvingGroup → HalvingGroup
right_of group = record {
  first = group.first + (3 * left_part group.faults + 1);
  nodes = 3 * right_part group.faults + 1;
  faults = right_part group.faults;
  modulus = right_period (sizes_of group);
  register = group.register + 2;
}

-- the half in which a node of the group is; a spare is in none
abbrev pub half_in : HalvingGroup → (v : ℕ) → Option HalvingGroup
half_in group v =
    if nat_lt v (right_of group).first then Some (left_of group)
    else if nat_lt v ((right_of group).first + (right_of group).nodes) then Some (right_of group)
    else None

-- where the registers of the group's lowest halves end
abbrev pub registers_end : HalvingGroup → ℕ
registers_end group = group.register + tree_depth (tree_in group)

-- all nodes of a plan
abbrev pub whole_of : HalvingNumbers → HalvingGroup
whole_of plan = record {
  first = 0;
  nodes = plan.nodes;
  faults = plan.faults;
  modulus = plan.modulus;
  register = 0;
}

-- a half of a group, in which a node is
pub record IsHalf (group : HalvingGroup) (v : ℕ) (half : HalvingGroup) : Type 0 where
  pub is_group : IsGroup half
  pub first : half.first ≤ v
  pub last : v < half.first + half.nodes
  pub within : half.first + half.nodes ≤ group.first + group.nodes
  pub smaller : half.nodes ≤ group.nodes
  pub fewer : half.faults < group.faults
  pub register : half.register ≡ group.register + 2
  pub registers : registers_end half ≤ registers_end group
