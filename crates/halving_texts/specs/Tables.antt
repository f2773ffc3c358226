-- The table of a plan: its numbers, and those of each of its groups and nodes, line by line.
use Rattle.std.specs.Prelude.{ℕ, zero, suc, ◌+◌, ◌-◌, List, [], ◌∷◌, ◌++◌, ◌==◌, if◌then◌else◌}
use Rattle.std.specs.Prelude.{codes, decimal}
use Rattle.std.specs.List.{concat, flat_map, range_with_len}
use Rattle.halving_plan.specs.Halves.{right_share, left_share, right_period}
use Rattle.halving_plan.specs.Trees.{tree_bound}
use Rattle.halving_plan.specs.Plans.{HalvingNumbers, tree_of}
use Rattle.halving_plan.specs.Groups.{HalvingGroup, left_of, right_of, whole_of, sizes_of}
use Rattle.halving_plan.specs.Sizes.{state_bits, state_bytes, levels_of, node_bytes}
use Rattle.halving_plan.specs.OutputPlaces.{output_start, output_bits}

-- the first two lines: what the text is, and the plan
abbrev pub plan_line : HalvingNumbers → List ℕ
plan_line plan = concat (
    codes "table halving 1\nplan nodes " ∷ decimal plan.nodes
    ∷ codes " faults " ∷ decimal plan.faults
    ∷ codes " modulus " ∷ decimal plan.modulus
    ∷ codes "\n" ∷ [])

-- from which round on the nodes count; how many levels there are; and how many bits and bytes the
-- states take of the node that has most
abbrev pub sizes_line : HalvingNumbers → List ℕ
sizes_line plan = concat (
    codes "bound " ∷ decimal (tree_bound (tree_of plan))
    ∷ codes " levels " ∷ decimal (levels_of plan)
    ∷ codes " bits " ∷ decimal (state_bits plan)
    ∷ codes " bytes " ∷ decimal (state_bytes plan)
    ∷ codes "\n" ∷ [])

-- a group: its first node, how many nodes there are and how many may be faulty, and the modulus
-- that they count by
abbrev pub group_front : HalvingGroup → List ℕ
group_front group = concat (
    codes "group " ∷ decimal group.first
    ∷ codes " nodes " ∷ decimal group.nodes
    ∷ codes " faults " ∷ decimal group.faults
    ∷ codes " modulus " ∷ decimal group.modulus ∷ [])

-- how many nodes are in no half
abbrev pub spares_of : HalvingGroup → ℕ
spares_of group = group.nodes - (left_of group).nodes - (right_of group).nodes

-- Of a period of the left half the right half's share; then how many instructions the left half's
-- kings have, and the right half's, and how many kings each half has; and how many nodes are in no
-- half.
abbrev pub halves_end : HalvingGroup → List ℕ
halves_end group = concat (
    codes " share " ∷ decimal (right_share (sizes_of group))
    ∷ codes " left " ∷ decimal (left_share (sizes_of group))
    ∷ codes " right " ∷ decimal (right_period (sizes_of group))
    ∷ codes " kings " ∷ decimal ((left_of group).faults + 1)
    ∷ codes " " ∷ decimal ((right_of group).faults + 1)
    ∷ codes " spares " ∷ decimal (spares_of group)
    ∷ codes "\n" ∷ [])

-- the line of a group; a node alone has no halves
abbrev pub group_line : HalvingGroup → List ℕ
group_line group =
    group_front group ++ (if group.faults == 0 then codes "\n" else halves_end group)

-- the lines of a group and of all groups in it, which is so deep at most
abbrev pub lines_within : (depth : ℕ) → HalvingGroup → List ℕ
lines_within zero group = group_line group
lines_within (suc depth) group =
    group_line group
    ++ (if group.faults == 0 then []
    else lines_within depth (left_of group) ++ lines_within depth (right_of group))

-- a group is no deeper than its faults are many
abbrev pub group_lines : HalvingGroup → List ℕ
group_lines group = lines_within group.faults group

-- a node: how many bytes its states have, and from which of their bits on its output stands, and in
-- how many
abbrev pub node_line : HalvingNumbers → (v : ℕ) → List ℕ
node_line plan v = concat (
    codes "node " ∷ decimal v
    ∷ codes " bytes " ∷ decimal (node_bytes plan v)
    ∷ codes " output " ∷ decimal (output_start plan v)
    ∷ codes " " ∷ decimal (output_bits plan)
    ∷ codes "\n" ∷ [])

abbrev pub node_lines : HalvingNumbers → List ℕ
node_lines plan = flat_map (node_line plan) (range_with_len 0 plan.nodes)

abbrev pub table_text : HalvingNumbers → List ℕ
table_text plan = concat (
    plan_line plan
    ∷ sizes_line plan
    ∷ group_lines (whole_of plan)
    ∷ node_lines plan
    ∷ codes "end\n" ∷ [])
