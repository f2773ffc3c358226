-- A runner of a plan and a script, with a layer above the counter, at configuration 0.
use Rattle.std.specs.Prelude.{◌≡◌, List}
use Rattle.construction.specs.Plans.{Plan}
use Rattle.counter_core.specs.Overlays.{Layer}
use Rattle.adversary_script.specs.Scripts.{Script}
use Rattle.round_runner.specs.Runners.{Running}
use Rattle.run_lines.specs.Playing.{IsToPlay}

pub record IsBegun {O Kept : Type 0} (layer_of : O → Layer Kept) (kept_of : O → List Kept)
    (plan : Plan) (script : Script) (overlay : O) (runner : Running O) : Type 0 where
  pub plan_is : runner.plan ≡ plan
  pub script_is : runner.script ≡ script
  pub overlay_is : runner.overlay ≡ overlay
  pub plays : IsToPlay layer_of kept_of runner
