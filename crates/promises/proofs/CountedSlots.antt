-- The slots that begin are those that count.
use Rattle.construction.specs.Runs.{IsState}
use Rattle.plan_laws.specs.PlanMeaning.{plan_meaning}
use Rattle.counter_core.specs.Overlays.{Layer}
use Rattle.layer_runner.proofs.CountedSlots.{slots_count_over}
use Rattle.promises.specs.CountedSlots.{SlotsCount}
use Rattle.promises.proofs.EraRuns.{plays_eras}

pub slots_are_exact : {Kept : Type 0} (layer : Layer Kept) → SlotsCount layer
slots_are_exact layer plan script keeps is began enough =
    slots_count_over layer (plan_meaning plan) (IsState plan) script began
    (plays_eras layer plan script keeps is began enough)
