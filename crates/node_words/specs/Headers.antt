-- The header of an input: a plan, and then a node part.
use Rattle.std.specs.Prelude.{ℕ, List, Option, Result}
use Rattle.sync_types.specs.declared.answers.Premise.{Premise}
use Rattle.sync_types.specs.declared.answers.Premise.TheVariants as premise
use Rattle.construction.specs.Plans.{Plan}
use Rattle.plan_reader.specs.PlanPart.{plan_step}
use Rattle.plan_reader.specs.declared.stages.PlanStage.{PlanStage}
use Rattle.plan_reader.specs.declared.stages.PlanStage.TheVariants.{Unread}
use Rattle.state_codec.specs.Shapes.{shape_of}
use Rattle.node_words.specs.declared.headers.HeaderRefusal as declared
use Rattle.node_words.specs.HeaderParts as any
use Rattle.node_words.specs.HeaderParts.{PlanPart, HeaderOf}

-- the plan part
abbrev pub plan_part : PlanPart PlanStage Plan Premise
plan_part =
    record { step = plan_step; unread = Unread; form = premise.Form; shape = shape_of }

-- a header: its plan, its node, and how many lines it has
abbrev pub Header : Type 0
Header = HeaderOf Plan

-- the refusal of a line of it
abbrev pub HeaderRefusal : Type 0
HeaderRefusal = declared.HeaderRefusal Premise

-- the header of these lines, if so many bytes may be read, or the refusal of a line; None: the
-- header is too long
abbrev pub header_in : Option ℕ → List (List ℕ) → Result Header (Option HeaderRefusal)
header_in = any.header_in plan_part
