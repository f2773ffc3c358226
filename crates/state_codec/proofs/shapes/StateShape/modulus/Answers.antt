use Rattle.state_codec.proofs.NoNodes.{has_node}
use Rattle.state_codec.proofs.shapes.StateShape.modulus.Goals as goal

pub modulus_of-requires-clause-node : goal.modulus_of-requires-clause-node
modulus_of-requires-clause-node c = has_node _ _ c.facts.ensures c.requires
