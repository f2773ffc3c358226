use Rattle.node_stepper.proofs.Configurations.{depth_of, kept_hearing}
use Rattle.node_stepper.proofs.engine.NodeEngine.hear.Goals as goal

pub read_state-requires-clause-node : goal.read_state-requires-clause-node
read_state-requires-clause-node g c = rw (← c.self.view_is) at c.requires

pub read_state-requires-clause-depth : goal.read_state-requires-clause-depth
read_state-requires-clause-depth g c =
    depth_of _ _ _ _ _ _ c.self.invariant _ (rw (← c.self.view_is) at c.requires) _
    c.index_mut-state.ensures.value

pub invariant_of-self : goal.invariant_of-self
invariant_of-self g c =
    kept_hearing _ _ _ _ _ _ c.self.invariant _ (rw (← c.self.view_is) at c.requires) _ _
    c.read_state.ensures
