use Rattle.workbench.proofs.NodeEnds.{any_shaped}
use Rattle.workbench.proofs.plan_nodes.PlanNodesConstruction.counter.Goals as goal

pub returns-clause-shaped : goal.returns-clause-shaped
returns-clause-shaped c = any_shaped _ _
