-- The shape of the states of a halving plan with the registers of a layer after the plan's.
use Rattle.std.specs.Prelude.{ℕ, ◌+◌, map, Option, Some, None}
use Rattle.std.specs.List.{range_with_len}
use Rattle.state_codec.specs.Shapes.{Shape, with_further}
use Rattle.halving_plan.specs.Steps.{tree_depth}
use Rattle.halving_plan.specs.Runs.{all_fields}
use Rattle.halving_plan.specs.Plans.{HalvingNumbers, tree_of}
use Rattle.halving_texts.specs.HalvingShapes.{shape_of}
use Rattle.layer_parts.specs.declared.registers.Registers.{Registers}

-- every node has so many further registers of one modulus
abbrev pub shape_with : HalvingNumbers → (values count : ℕ) → Shape
shape_with plan values count = record {
  depth = tree_depth (tree_of plan) + count;
  fields =
      map (λ v. with_further (all_fields (tree_of plan) plan.modulus v) values count)
      (range_with_len 0 plan.nodes);
}

-- the shape with these registers, if there are any
abbrev pub shape_for : HalvingNumbers → Option Registers → Shape
shape_for plan None = shape_of plan
shape_for plan (Some more) = shape_with plan more.values more.count
