use Rattle.state_codec.proofs.Grouping.{IsGrouped}
use Rattle.state_codec.proofs.shapes.StateShape.by_node.Given as goal

abbrev pub invariant-loop-v : goal.invariant-loop-v
invariant-loop-v l = IsGrouped l.depth l.nodes l.kinds.items l.which.items l.v
