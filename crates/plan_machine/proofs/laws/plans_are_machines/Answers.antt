use Rattle.plan_machine.proofs.PlanMachines as laws
use Rattle.plan_machine.proofs.laws.plans_are_machines.Goals as goal

pub returns : goal.returns
returns c = laws.plans_are_machines
