-- How a node of a plan is read, and the line that refuses its plan.
use Rattle.sync_types.specs.declared.answers.Premise.{Premise}
use Rattle.construction.specs.Plans.{Plan}
use Rattle.plan_reader.specs.declared.stages.PlanStage.{PlanStage}
use Rattle.plan_machine.specs.PlanMachines.{machine_of_plan}
use Rattle.node_words.specs.Headers.{plan_part}
use Rattle.node_words.specs.Constructions.{Words}
use Rattle.outcomes.specs.declared.refusals.Refusal.TheVariants as refusal
use Rattle.outcomes.specs.Refusals.{refusal_line}

-- how a plan is read, which machine it is, and the line that refuses a line of it
abbrev pub plan_words : Words PlanStage Plan Premise
plan_words = record {
  part = plan_part;
  machine = machine_of_plan;
  refusal = λ line premise. refusal_line (refusal.Plan line premise);
}
