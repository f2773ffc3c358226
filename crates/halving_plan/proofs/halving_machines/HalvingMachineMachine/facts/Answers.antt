use Rattle.halving_plan.proofs.Sound.{accepted_are_sound}
use Rattle.halving_plan.proofs.halving_machines.HalvingMachineMachine.facts.Goals as goal

pub returns : goal.returns
returns c = rw (← c.self.view_is) (accepted_are_sound _ c.self.invariant.accepted)
