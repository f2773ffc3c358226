-- The machine of a plan of either construction.
use Rattle.machines.specs.Machines.{Machine}
use Rattle.plan_machine.specs.PlanMachines.{machine_of_plan}
use Rattle.halving_plan.specs.Laws.{machine_in}
use Rattle.node_calls.specs.declared.any_machines.AnyMachine.{AnyMachine}
use Rattle.node_calls.specs.declared.any_machines.AnyMachine.TheVariants.{Boosting, Halving}

abbrev pub machine_of : AnyMachine → Machine
machine_of (Boosting plan) = machine_of_plan plan
machine_of (Halving plan) = machine_in plan
