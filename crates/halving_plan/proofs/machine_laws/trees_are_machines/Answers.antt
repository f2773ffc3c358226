use Rattle.halving_plan.proofs.Alike.{trees_are_machines}
use Rattle.halving_plan.proofs.machine_laws.trees_are_machines.Goals as goal

pub returns : goal.returns
returns c = trees_are_machines
