-- What plays an input of a plan and a script.
use Rattle.std.specs.Prelude.{◌≡◌, ℕ, List, [], Ok}
use Rattle.construction.specs.Plans.{Plan}
use Rattle.counter_core.specs.declared.overlays.NoOverlay.{NoOverlay}
use Rattle.counter_core.specs.NoLayers.{no_layer}
use Rattle.round_runner.specs.Runners.{Running}
use Rattle.run_lines.specs.Playing.{IsToPlay, HasPlayed}
use Rattle.run_checker.specs.Playing.{IsToRecord}
use Rattle.outcomes.specs.Inputs.{scripted_of}

-- it is at configuration 0, and is to play its script without a layer
abbrev pub IsToPlayAlone : Running NoOverlay → Type 0
IsToPlayAlone r = IsToPlay (λ o. no_layer) (λ o. []) r

-- it is the same runner, at configuration c
abbrev pub HasPlayedAlone : (start : Running NoOverlay) → (c : ℕ) → Running NoOverlay → Type 0
HasPlayedAlone start c r = HasPlayed (λ o. no_layer) (λ o. []) start c r

-- The runner of the plan, which is to play the script of the input, and may be recorded.
pub record IsScriptedRun (input : List ℕ) (run : Plan × Running NoOverlay) : Type 0 where
  pub read : scripted_of input ≡ Ok (record { plan = run.0; script = run.1.script })
  pub plan_is : run.1.plan ≡ run.0
  pub plays : IsToPlayAlone run.1
  pub records : IsToRecord run.1
