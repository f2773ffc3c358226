-- What is swept of an input, by what is played of it.
use Rattle.std.proofs.Common.{◌≡◌, ℕ, List, Result, Ok, sym, ap, ◌∙◌}
use Rattle.answers.specs.ScriptedRuns.{IsScriptedRun}
use Rattle.construction.specs.Plans.{Plan}
use Rattle.counter_core.specs.declared.overlays.NoOverlay.{NoOverlay}
use Rattle.machine_runner.specs.Runners as machine_runs
use Rattle.outcomes.specs.Inputs.{scripted_of}
use Rattle.halving_plan.specs.Laws.{machine_in}
use Rattle.halving_plan.specs.Plans.{HalvingNumbers}
use Rattle.round_runner.specs.Runners.{Running}
use Rattle.state_codec.specs.Shapes.{Shape}
use Rattle.adversary_script.specs.Scripts.{Script}
use Rattle.sweep.specs.Sweeps.{Swept, on_plan, on_machine}
use Rattle.halving_runs.specs.Readings.{IsReadAs}
use Rattle.halving_runs.specs.RunInputs as halving
use Rattle.sweep.specs.Inputs.{swept_on_plan, swept_on_halving}
use Rattle.sweep.specs.declared.reasons.SweepReason.{SweepReason}

-- what the runner of an input plays is what is swept of it
pub plan_is : (input : List ℕ) (run : Plan × Running NoOverlay) → IsScriptedRun input run
    → swept_on_plan (scripted_of input) ≡ Ok (on_plan run.1.plan run.1.script)
plan_is input run is =
    ap swept_on_plan is.read
    ∙ ap (λ (plan : Plan). let r : Result Swept SweepReason = Ok (on_plan plan run.1.script) in r)
    (sym is.plan_is)

pub halving_are : (input : List ℕ) (read : HalvingNumbers × Shape × Script) → IsReadAs input read
    → (r : machine_runs.Running HalvingNumbers) → r ≡ machine_runs.begun read.0 read.2
    → swept_on_halving (halving.scripted_of input)
    ≡ Ok (on_machine (machine_in r.machine) r.script)
halving_are input read is r begun =
    ap swept_on_halving is.is
    ∙ ap (λ (r : machine_runs.Running HalvingNumbers). let s : Result Swept SweepReason =
    Ok (on_machine (machine_in r.machine) r.script) in s) (sym begun)
