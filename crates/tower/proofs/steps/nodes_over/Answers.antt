use Rattle.std.proofs.Common.{sym}
use Rattle.tower.proofs.Descent.{group_nodes}
use Rattle.tower.proofs.steps.nodes_over.Goals as goal

pub returns-in-Some : goal.returns-in-Some
returns-in-Some c = sym (group_nodes _ _ _ _ c.in-Some.ensures.cases.0 c.requires.1)
