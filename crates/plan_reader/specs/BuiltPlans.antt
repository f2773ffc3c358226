-- The plan of a part that was read so far.
use Rattle.std.specs.Prelude.{⊤, ◌≤◌, Option, Some, None}
use Rattle.construction.specs.Plans.{Plan}
use Rattle.plan_reader.specs.declared.stages.PlanStage.{PlanStage}
use Rattle.plan_reader.specs.declared.stages.PlanStage.TheVariants.{Begun, Built}

-- the plan that was built, if the base line was read
abbrev pub built_plan : PlanStage → Option Plan
built_plan (Built plan) = Some plan
built_plan other = None

-- the version that a part began with is 1 or 2
abbrev pub HasVersion : PlanStage → Type 0
HasVersion (Begun version) = (1 ≤ version) × (version ≤ 2)
HasVersion other = ⊤
