-- The fields that a node has in a group, and in a plan.
use Rattle.std.specs.Prelude.{ℕ, ◌-◌}
use Rattle.halving_plan.specs.Runs.{Fields, fields_in}
use Rattle.halving_plan.specs.Groups.{HalvingGroup, tree_in}
use Rattle.halving_plan.specs.Plans.{HalvingNumbers, tree_of}

-- the fields of node v in a group
abbrev pub fields_by : HalvingGroup → (v : ℕ) → Fields
fields_by group v = fields_in (tree_in group) group.modulus (v - group.first)

-- the fields of node v of a plan
abbrev pub fields_of : HalvingNumbers → (v : ℕ) → Fields
fields_of plan v = fields_in (tree_of plan) plan.modulus v
