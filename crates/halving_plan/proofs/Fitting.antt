-- A half lies in its group.
use Rattle.std.proofs.Common.{ℕ, ◌+◌, ◌-◌, ◌*◌, ◌<◌, ◌≤◌, refl, ap, arith}
use Rattle.halving_plan.specs.Trees.{tree_height, tree_for, left_part, right_part}
use Rattle.halving_plan.specs.Groups.{HalvingGroup, IsGroup, IsHalf, left_of, right_of, registers_end}
use Rattle.halving_plan.proofs.Halves.{half_tree}
use Rattle.halving_plan.proofs.Trees.{height_of, taller}

pub left_is : (group : HalvingGroup) → IsGroup group → 0 < group.faults → IsGroup (left_of group)
left_is group is some =
    let quorum = is.quorum in
    let last = is.last in
    let register = is.register in
    record {
      last = omega arith;
      quorum = omega arith;
      single = λ e. omega arith;
      least_modulus = omega arith;
      most_modulus = omega arith;
      register = omega arith;
    }

pub right_is : (group : HalvingGroup) → IsGroup group → 0 < group.faults → IsGroup (right_of group)
right_is group is some =
    let quorum = is.quorum in
    let last = is.last in
    let register = is.register in
    record {
      last = omega arith;
      quorum = omega arith;
      single = λ e. omega arith;
      least_modulus = omega arith;
      most_modulus = omega arith;
      register = omega arith;
    }

-- ---- registers

-- a group that has halves has two registers more than its halves
pub two_before_end : (group : HalvingGroup) → 0 < group.faults
    → group.register + 2 ≤ registers_end group
two_before_end group some =
    omega (arith, height_of group.faults (group.nodes - (3 * group.faults + 1)) some)

-- the half of so many faults ends no later
half_end : (group : HalvingGroup) (f : ℕ) → 0 < group.faults
    → f ≤ right_part group.faults
    → group.register + 2 + 2 * tree_height (tree_for f (3 * f + 1 - (3 * f + 1)))
    ≤ registers_end group
half_end group f some le =
    let height = height_of group.faults (group.nodes - (3 * group.faults + 1)) some in
    let less = taller f (right_part group.faults) 0 0 le in
    omega (arith, height, less, ap tree_height (half_tree f))

pub left_end : (group : HalvingGroup) → 0 < group.faults
    → registers_end (left_of group) ≤ registers_end group
left_end group some = half_end group (left_part group.faults) some (omega arith)

pub right_end : (group : HalvingGroup) → 0 < group.faults
    → registers_end (right_of group) ≤ registers_end group
right_end group some = half_end group (right_part group.faults) some (omega arith)

-- ---- the half in which a node is

pub left_half : (group : HalvingGroup) (v : ℕ) → IsGroup group → 0 < group.faults → group.first ≤ v
    → v < (right_of group).first → IsHalf group v (left_of group)
left_half group v is some from less =
    let quorum = is.quorum in
    record {
      is_group = left_is group is some;
      first = from;
      last = less;
      within = omega arith;
      smaller = omega arith;
      fewer = omega arith;
      register = refl;
      registers = left_end group some;
    }

pub right_half : (group : HalvingGroup) (v : ℕ) → IsGroup group → 0 < group.faults
    → (right_of group).first ≤ v → v < (right_of group).first + (right_of group).nodes
    → IsHalf group v (right_of group)
right_half group v is some from less =
    let quorum = is.quorum in
    record {
      is_group = right_is group is some;
      first = from;
      last = less;
      within = omega arith;
      smaller = omega arith;
      fewer = omega arith;
      register = refl;
      registers = right_end group some;
    }
