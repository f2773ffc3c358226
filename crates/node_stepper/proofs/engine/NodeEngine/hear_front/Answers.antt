use Rattle.node_stepper.proofs.Configurations.{depth_of, kept_hearing}
use Rattle.node_stepper.proofs.engine.NodeEngine.hear_front.Goals as goal

pub read_front-requires-clause-node : goal.read_front-requires-clause-node
read_front-requires-clause-node g c = rw (← c.self.view_is) at c.requires.sender

pub read_front-requires-clause-depth : goal.read_front-requires-clause-depth
read_front-requires-clause-depth g c =
    depth_of _ _ _ _ _ _ c.self.invariant _ (rw (← c.self.view_is) at c.requires.sender) _
    c.index_mut-state.ensures.value

pub invariant_of-self : goal.invariant_of-self
invariant_of-self g c =
    kept_hearing _ _ _ _ _ _ c.self.invariant _ (rw (← c.self.view_is) at c.requires.sender) _ _
    c.read_front.ensures
