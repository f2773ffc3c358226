-- A plan of either construction: its machine, the shape of its states, and its text.
use Rattle.std.specs.Prelude.{ℕ, ◌+◌, List}
use Rattle.construction.specs.Plans.{plan_depth}
use Rattle.state_codec.specs.Shapes as boosting
use Rattle.state_codec.specs.Shapes.{Shape}
use Rattle.machines.specs.Machines.{Machine}
use Rattle.plan_reader.specs.PlanTexts.{plan_text}
use Rattle.plan_numbers.specs.Premises as boosting_premises
use Rattle.halving_plan.specs.Plans as halving_premises
use Rattle.halving_texts.specs.HalvingShapes as halving
use Rattle.halving_texts.specs.HalvingTexts.{halving_text}
use Rattle.node_calls.specs.Machines.{machine_of}
use Rattle.node_calls.specs.declared.any_machines.AnyMachine.{AnyMachine}
use Rattle.node_calls.specs.declared.any_machines.AnyMachine.TheVariants as counter
use Rattle.attack.specs.declared.plans.AnyPlan.{AnyPlan}
use Rattle.attack.specs.declared.plans.AnyPlan.TheVariants as plan

abbrev pub counter_of : AnyPlan → AnyMachine
counter_of (plan.Boosting own) = counter.Boosting own
counter_of (plan.Halving own) = counter.Halving own

abbrev pub machine_in : AnyPlan → Machine
machine_in any = machine_of (counter_of any)

abbrev pub shape_in : AnyPlan → Shape
shape_in (plan.Boosting own) = boosting.shape_of own
shape_in (plan.Halving own) = halving.shape_of own

abbrev pub IsAcceptedPlan : AnyPlan → Type 0
IsAcceptedPlan (plan.Boosting own) = boosting_premises.IsAccepted own
IsAcceptedPlan (plan.Halving own) = halving_premises.IsAccepted own

-- its text, in its own version
abbrev pub text_of : AnyPlan → List ℕ
text_of (plan.Boosting own) = plan_text own.version own
text_of (plan.Halving own) = halving_text own

-- the number of the line that follows its text
abbrev pub first_line_of : AnyPlan → ℕ
first_line_of (plan.Boosting own) = 1 + (plan_depth own + 3)
first_line_of (plan.Halving own) = 1 + 3
