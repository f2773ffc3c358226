-- The bits of a group are those of its level and the most that a half has.
use Rattle.std.proofs.Common.{◌≡◌, ℕ, ◌+◌, ◌-◌, ◌*◌, ◌<◌, ◌≤◌, max, sym, ap, ap₂, ◌∙◌}
use Rattle.halving_plan.specs.Halves.{Halves, left_period, right_period}
use Rattle.halving_plan.specs.Trees.{Tree, left_part, right_part}
use Rattle.halving_plan.specs.Groups.{HalvingGroup, IsGroup, tree_in, left_of, right_of, sizes_of}
use Rattle.halving_plan.specs.Groups.{half_in}
use Rattle.halving_plan.specs.Fields.{fields_by}
use Rattle.halving_plan.proofs.Trees.{split_of}
use Rattle.halving_plan.proofs.Halves.{left_tree, right_tree, half_tree, halves_are}
use Rattle.halving_plan.specs.Sizes.{fields_bits, level_bits, most_bits}
use Rattle.halving_plan.proofs.GroupFields.{fields_by_level, fields_in_half}
use Rattle.halving_plan.proofs.Most.{with_level_bits}

-- of a level over two trees
abbrev bits_over : (left right : Tree) (halves : Halves) (modulus : ℕ) → ℕ
bits_over left right halves modulus =
    level_bits halves modulus
    + max (most_bits left (left_period halves)) (most_bits right (right_period halves))

pub bits_by_level : (group : HalvingGroup) → IsGroup group → 0 < group.faults
    → most_bits (tree_in group) group.modulus
    ≡ level_bits (sizes_of group) group.modulus
    + max (most_bits (tree_in (left_of group)) (left_of group).modulus)
    (most_bits (tree_in (right_of group)) (right_of group).modulus)
bits_by_level group is some =
    let f = group.faults in
    let c = group.modulus in
    let left = left_tree f in
    let right = right_tree f in
    let spares = group.nodes - (3 * f + 1) in
    ap (λ t. most_bits t c) (split_of f spares some)
    ∙ (ap (λ g. bits_over left right g c) (halves_are group is some)
    ∙ ap₂ (λ l r. bits_over l r (sizes_of group) c) (sym (half_tree (left_part f)))
    (sym (half_tree (right_part f))))

-- and those of a node are those of the level and what it has in its half
pub node_by_level : (group : HalvingGroup) (v : ℕ) → IsGroup group → 0 < group.faults
    → group.first ≤ v
    → fields_bits (fields_by group v)
    ≡ level_bits (sizes_of group) group.modulus
    + fields_bits (fields_in_half (half_in group v) v)
node_by_level group v is some from =
    ap fields_bits (fields_by_level group v is some from)
    ∙ with_level_bits (sizes_of group) group.modulus (fields_in_half (half_in group v) v)
