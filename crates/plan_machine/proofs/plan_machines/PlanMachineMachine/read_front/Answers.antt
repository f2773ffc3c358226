use Rattle.std.proofs.Common.{◌∙◌, sym}
use Rattle.plan_machine.proofs.Kept.{node_of_shape, moduli_are}
use Rattle.plan_machine.proofs.plan_machines.PlanMachineMachine.read_front.Goals as goal

pub read_front-requires-clause-node : goal.read_front-requires-clause-node
read_front-requires-clause-node c =
    node_of_shape _ _ c.self.invariant _ (rw (← c.self.view_is) at c.requires.node)

pub read_front-requires-clause-depth : goal.read_front-requires-clause-depth
read_front-requires-clause-depth c =
    (rw (← c.self.view_is) at c.requires.depth) ∙ sym (moduli_are _ _ c.self.invariant)
