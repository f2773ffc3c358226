-- The shape of the states of a halving plan, and the header of one of its nodes.
use Rattle.std.specs.Prelude.{map}
use Rattle.std.specs.List.{range_with_len}
use Rattle.state_codec.specs.Shapes.{Shape}
use Rattle.node_words.specs.HeaderParts.{PlanPart}
use Rattle.halving_plan.specs.Steps.{tree_depth}
use Rattle.halving_plan.specs.Runs.{all_fields}
use Rattle.halving_plan.specs.Plans.{HalvingNumbers, tree_of}
use Rattle.halving_texts.specs.declared.premises.LinePremise.{LinePremise}
use Rattle.halving_texts.specs.declared.premises.LinePremise.TheVariants.{Form}
use Rattle.halving_texts.specs.declared.stages.HalvingStage.{HalvingStage}
use Rattle.halving_texts.specs.declared.stages.HalvingStage.TheVariants.{Unread}
use Rattle.halving_texts.specs.HalvingPart.{halving_step}

abbrev pub shape_of : HalvingNumbers → Shape
shape_of plan = record {
  depth = tree_depth (tree_of plan);
  fields = map (all_fields (tree_of plan) plan.modulus) (range_with_len 0 plan.nodes);
}

-- the plan's part of a header
abbrev pub halving_part : PlanPart HalvingStage HalvingNumbers LinePremise
halving_part =
    record { step = halving_step; unread = Unread; form = Form; shape = shape_of }
