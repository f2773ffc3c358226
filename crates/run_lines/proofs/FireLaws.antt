-- The lines of firing are those that are defined.
use Rattle.std.proofs.Common.{replicate}
use Rattle.construction.specs.Plans.{plan_nodes}
use Rattle.plan_laws.specs.PlanMeaning.{plan_meaning}
use Rattle.round_runner.specs.Locks.{is_locked}
use Rattle.firing.specs.Firings.{fire_layer, unfired}
use Rattle.layer_runner.proofs.FireLaws as any
use Rattle.run_lines.specs.LogLaws.{FiresAsDefined}
use Rattle.run_lines.proofs.ErasCounted.{eras_counted}

pub fires_as_defined : FiresAsDefined
fires_as_defined plan accepted requests for script right sound whole =
    any.fires_as_defined (plan_meaning plan) (is_locked plan) script requests for.whole
    (eras_counted plan script (fire_layer plan requests) (replicate (plan_nodes plan) unfired)
    accepted right sound whole)
