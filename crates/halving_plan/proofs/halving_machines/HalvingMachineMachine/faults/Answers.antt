use Rattle.std.proofs.Common.{◌∙◌, sym}
use Rattle.halving_plan.proofs.Numbers.{faults_of_tree}
use Rattle.halving_plan.proofs.halving_machines.HalvingMachineMachine.faults.Goals as goal

pub returns : goal.returns
returns c = rw (← c.self.view_is) (c.faults.ensures ∙ sym (faults_of_tree _ _))
