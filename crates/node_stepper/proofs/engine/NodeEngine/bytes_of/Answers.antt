use Rattle.node_stepper.proofs.engine.NodeEngine.bytes_of.Goals as goal

pub bytes_of-requires : goal.bytes_of-requires
bytes_of-requires g c = rw (← c.self.view_is) at c.requires
