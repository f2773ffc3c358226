-- The lines of consensus are those that are defined.
use Rattle.std.proofs.Common.{replicate}
use Rattle.construction.specs.Plans.{plan_nodes}
use Rattle.plan_laws.specs.PlanMeaning.{plan_meaning}
use Rattle.round_runner.specs.Locks.{is_locked}
use Rattle.consensus_layer.specs.Agreements.{agree_layer}
use Rattle.layer_runner.proofs.DecisionLaws as any
use Rattle.run_lines.specs.LayerLaws.{DecisionsAsDefined}
use Rattle.run_lines.proofs.ErasCounted.{eras_counted}

pub decisions_as_defined : DecisionsAsDefined
decisions_as_defined plan accepted said for script right sound whole =
    any.decisions_as_defined (plan_meaning plan) (is_locked plan) script said for.whole
    (eras_counted plan script (agree_layer plan said.values said.inputs)
    (replicate (plan_nodes plan) 0) accepted right sound whole)
