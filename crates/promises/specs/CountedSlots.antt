-- Which slots count: those of which a line is written, if they begin in a configuration that is
-- shown, on a plan's counter.
use Rattle.std.specs.Prelude.{ℕ, List}
use Rattle.sync_types.specs.States.{State}
use Rattle.construction.specs.Plans.{Plan, plan_nodes}
use Rattle.plan_laws.specs.PlanMeaning.{plan_meaning}
use Rattle.counter_core.specs.Overlays.{Layer, KeepsRange}
use Rattle.adversary_script.specs.Scripts.{Script}
use Rattle.layer_laws.specs.Played.{IsKeptFor}
use Rattle.run_lines.specs.PlayedTexts.{configuration_in}
use Rattle.layer_runner.specs.CountedSlots as any
use Rattle.promises.specs.LayeredEras.{IsReadFor}

-- just the slots of q rounds that count have a line
abbrev pub SlotsAreExact : Plan → Script → (config_at : ℕ → List State) → (q : ℕ) → Type 0
SlotsAreExact plan = any.SlotsAreExact (plan_meaning plan)

-- So it is of what is played with a layer whose step keeps values in range.
abbrev pub SlotsCount : {Kept : Type 0} → Layer Kept → Type 0
SlotsCount {Kept} layer = (plan : Plan) (script : Script) → KeepsRange layer
    → IsReadFor plan layer script → (began : List Kept) → IsKeptFor (plan_nodes plan) began
    → (q : ℕ) → SlotsAreExact plan script (configuration_in plan script layer began) q
