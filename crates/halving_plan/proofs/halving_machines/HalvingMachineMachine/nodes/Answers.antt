use Rattle.std.proofs.Common.{◌∙◌, sym}
use Rattle.halving_plan.proofs.Sound.{nodes_are}
use Rattle.halving_plan.proofs.halving_machines.HalvingMachineMachine.nodes.Goals as goal

pub returns : goal.returns
returns c = rw (← c.self.view_is) (c.nodes.ensures ∙ sym (nodes_are _ c.self.invariant.accepted))
