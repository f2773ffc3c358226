-- What a runner keeps. Of each era it knows the first locked configuration, or that there is none
-- so far.
use Rattle.std.specs.Prelude.{◌≡◌, ℕ, ◌+◌, ◌≤◌, List, length, Option}
use Rattle.construction.specs.Plans.{Plan}
use Rattle.plan_numbers.specs.Premises.{IsAccepted}
use Rattle.plan_laws.specs.PlanMeaning.{plan_meaning, IsInRange}
use Rattle.state_codec.specs.Shapes.{IsShape}
use Rattle.state_codec.specs.Packs.{Pack}
use Rattle.counter_core.specs.Overlays.{Layer}
use Rattle.adversary_script.specs.Scripts.{Script, IsScript}
use Rattle.adversary_script.specs.Eras.{era_of}
use Rattle.round_runner.specs.declared.stepping.RoundBuffers.{RoundBuffers}
use Rattle.round_runner.specs.Fits.{ShapeFits}
use Rattle.round_runner.specs.Rooms.{IsReady}
use Rattle.round_runner.specs.Runners.{IsPlayableOn}

pub record IsValidRunner {Kept : Type 0} (plan : Plan) (script : Script) (layer : Layer Kept)
    (room : RoundBuffers)
    (states : Pack) (locks : List (Option ℕ)) (at era : ℕ) : Type 0 where
  pub accepted : IsAccepted plan
  pub right : IsPlayableOn plan layer script
  pub sound : IsShape script.shape
  pub whole : IsScript script
  pub fits : ShapeFits script.shape (plan_meaning plan) (IsInRange plan) layer
  pub ready : IsReady plan script room
  pub shape : states.shape ≡ script.shape
  pub size : length states.current ≡ script.nodes
  pub within : at ≤ script.rounds
  pub here : era ≡ era_of script at
  pub eras : length locks ≡ length script.eras + 1
