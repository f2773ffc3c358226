-- What a runner on a plan knows of an era at its end is the first locked configuration of what is
-- played.
use Rattle.std.proofs.Common.{◌≡◌, ℕ, List, [], Option, Some, None, sym, ap, ◌∙◌, subst}
use Rattle.std.proofs.Common.{arith}
use Rattle.std.specs.Prelude.{IfSome, max}
use Rattle.std.proofs.Math.Path.{fun_ext}
use Rattle.sync_types.specs.States.{State}
use Rattle.construction.specs.Plans.{Plan}
use Rattle.counter_core.specs.declared.overlays.NoOverlay.{NoOverlay}
use Rattle.counter_core.specs.NoLayers.{no_layer}
use Rattle.adversary_script.specs.Scripts.{Script}
use Rattle.round_runner.specs.Known.{known_from}
use Rattle.round_runner.specs.Locks.{first_locked, era_locked, IsFirstLocked}
use Rattle.round_runner.specs.Played.{played_at}
use Rattle.round_runner.specs.Runners.{Running, configuration_of}
use Rattle.round_runner.specs.Skipping.{IsSkipped}
use Rattle.round_runner.proofs.Playing.{scene_played}
use Rattle.sweep.specs.Sweeps.{lock_of}
use Rattle.sweep.specs.Tallies.{IsOfEra}

-- a first locked configuration is one of its era
pub first_within : (plan : Plan) (script : Script) (config_at : ℕ → List State) (j at : ℕ)
    (found : Option ℕ) → IsFirstLocked plan script config_at j at found
    → IfSome found (IsOfEra script j)
first_within plan script config_at j at None h = tt
first_within plan script config_at j at (Some t) h = (h.1.from, h.1.before)

pub lock_is : (r : Running NoOverlay) (j : ℕ) (found : Option ℕ)
    → found ≡ first_locked
    (era_locked r.plan r.script (configuration_of (λ o. no_layer) [] r) j) r.script.rounds
    → found ≡ lock_of r.plan r.script j
lock_is r j found is = is
    ∙ ap (λ (config_at : ℕ → List State).
    first_locked (era_locked r.plan r.script config_at j) r.script.rounds)
    (fun_ext (λ t. scene_played r.plan r.script [] t))

-- a run from configuration 0 on stops when they are known
pub stops_at : (begun r : Running NoOverlay) → begun.at ≡ 0 → IsSkipped begun r.at r
    → r.at ≡ max begun.at
    (known_from begun.plan begun.script (configuration_of (λ o. no_layer) [] begun))
    → r.at ≡ known_from r.plan r.script (played_at r.plan r.script)
stops_at begun r zero skipped stops =
    let here : r.at ≡ known_from begun.plan begun.script
    (configuration_of (λ o. no_layer) [] begun) = omega (arith, stops, zero) in
    subst (λ (script : Script). r.at ≡ known_from r.plan script (played_at r.plan script))
    (sym skipped.script)
    (subst (λ (plan : Plan). r.at
    ≡ known_from plan begun.script (played_at plan begun.script)) (sym skipped.plan)
    (here ∙ ap (λ (config_at : ℕ → List State). known_from begun.plan begun.script config_at)
    (fun_ext (λ t. scene_played begun.plan begun.script [] t))))
