-- The lines of a log are those that are defined.
use Rattle.std.proofs.Common.{[], replicate}
use Rattle.construction.specs.Plans.{plan_nodes}
use Rattle.plan_laws.specs.PlanMeaning.{plan_meaning}
use Rattle.round_runner.specs.Locks.{is_locked}
use Rattle.replicated_log.specs.Logs.{log_layer}
use Rattle.layer_runner.proofs.EntryLaws as any
use Rattle.run_lines.specs.LogLaws.{EntriesAsDefined}
use Rattle.run_lines.proofs.ErasCounted.{eras_counted}

pub entries_as_defined : EntriesAsDefined
entries_as_defined plan accepted said for script right sound whole =
    any.entries_as_defined (plan_meaning plan) (is_locked plan) script said for.whole
    (eras_counted plan script (log_layer plan said) (replicate (plan_nodes plan) []) accepted right
    sound whole)
