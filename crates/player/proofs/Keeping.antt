-- What a player keeps from one configuration to the next.
use Rattle.std.proofs.Common.{◌≡◌, ℕ, ◌+◌, List, Option, refl, ap, ap₂, ◌∙◌, subst}
use Rattle.counter_core.specs.Overlays.{Layer}
use Rattle.machines.specs.Machines.{Machine}
use Rattle.layer_laws.specs.Scenes.{Scene}
use Rattle.adversary_script.specs.Scripts.{Script, IsScript}
use Rattle.counter_core.specs.Meanings.{Meaning}
use Rattle.machine_runner.specs.FirstLocked.{LockTest, next_locks}
use Rattle.layer_laws.proofs.Playing.{begins}
use Rattle.layer_laws.specs.Positions.{Position, begun, advanced, IsPlayed}
use Rattle.layer_laws.specs.PlayedScenes.{next_scene}
use Rattle.player.specs.Runners.{Running, position_of}

-- a position, part by part
pub advanced_is : {Kept : Type 0} (old : Position Kept) (layer : Layer Kept) (scene : Scene Kept)
    (locks : List (Option ℕ)) → layer ≡ old.layer
    → scene ≡ next_scene old.counter old.script old.layer old.at old.scene
    → locks ≡ next_locks old.locked old.script old.locks (old.at + 1) scene.states
    → record old { layer = layer; at = old.at + 1; scene = scene; locks = locks } ≡ advanced old
advanced_is old layer scene locks same is known =
    ap (λ (l : Layer _). let p : Position _ =
    record old { layer = l; at = old.at + 1; scene = scene; locks = locks } in p) same
    ∙ ap₂ (λ (s : Scene _) (ls : List (Option ℕ)). let p : Position _ =
    record old { at = old.at + 1; scene = s; locks = ls } in p) is
    (known ∙ ap (λ (s : Scene _). next_locks old.locked old.script old.locks (old.at + 1) s.states)
    is)

-- what follows on the view of a runner follows on the runner
pub moved : {M O Kept : Type 0} (machine_of : M → Machine) (layer_of : O → Layer Kept)
    (kept_of : O → List Kept) (view old : Running M O) (new : Position Kept) → view ≡ old
    → new ≡ advanced (position_of machine_of layer_of kept_of view)
    → new ≡ advanced (position_of machine_of layer_of kept_of old)
moved machine_of layer_of kept_of view old new is step =
    subst (λ (r : Running _ _). new ≡ advanced (position_of machine_of layer_of kept_of r)) is step

-- a play that begins is one of its script
pub begun_played : {Kept : Type 0} (counter : Meaning) (locked : LockTest) (script : Script)
    (layer : Layer Kept) (kept : List Kept) → IsScript script
    → IsPlayed kept (begun counter locked script layer kept)
begun_played counter locked script layer kept whole = record {
  scene = refl;
  locks = ap (λ (p : Position _). p.locks) (begins counter locked script layer kept whole);
}
