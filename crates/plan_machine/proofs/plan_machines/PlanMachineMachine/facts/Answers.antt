use Rattle.plan_machine.proofs.Sound.{accepted_are_sound}
use Rattle.plan_machine.proofs.plan_machines.PlanMachineMachine.facts.Goals as goal

pub returns : goal.returns
returns c = rw (← c.self.view_is) (accepted_are_sound _ c.self.invariant.accepted)
