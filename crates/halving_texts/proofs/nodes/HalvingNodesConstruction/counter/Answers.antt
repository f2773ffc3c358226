use Rattle.halving_texts.proofs.Headers.{ok_shaped}
use Rattle.halving_texts.proofs.nodes.HalvingNodesConstruction.counter.Goals as goal

pub returns-clause-shaped : goal.returns-clause-shaped
returns-clause-shaped c = ok_shaped _ _ c.facts.ensures
