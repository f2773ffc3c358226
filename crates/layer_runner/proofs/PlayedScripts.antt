-- What is played of a script with a layer is the script's.
use Rattle.std.proofs.Common.{◌≡◌, ℕ, ◌<◌, List, [], map, get_or, refl, ap, ◌∙◌, arith}
use Rattle.std.specs.List.{range_with_len}
use Rattle.std.proofs.lemmas.List.FromFn.{get_or-map-range_with_len}
use Rattle.sync_types.specs.States.{State, zero_state}
use Rattle.construction.specs.Steps.{state_of}
use Rattle.counter_core.specs.Overlays.{Layer}
use Rattle.adversary_script.specs.Scripts.{Script}
use Rattle.adversary_script.specs.Eras.{faulty_at}
use Rattle.adversary_script.specs.Lies.{lie_of}
use Rattle.adversary_script.specs.Rounds.{lies_at}
use Rattle.layer_runner.specs.PlayedScripts.{played_scene, ScriptsArePlayedOver}
use Rattle.layer_laws.proofs.SceneSteps.{put_is, steps_as, keeps_as}

-- what the table of lies of a round has for two nodes is what the script says of these
pub told_is : (script : Script) (t : ℕ) (config : List State) (u v : ℕ) → u < script.nodes
    → v < script.nodes
    → state_of (get_or (lies_at script t config) u []) v ≡ lie_of script t u v config
told_is script t config u v ult vlt =
    ap (λ (row : List State). state_of row v)
    (get_or-map-range_with_len
    (λ w. map (λ x. lie_of script t w x config) (range_with_len 0 script.nodes)) 0 script.nodes u u
    [] ult (omega arith))
    ∙ get_or-map-range_with_len (λ x. lie_of script t u x config) 0 script.nodes v v
    (zero_state 0) vlt (omega arith)

pub scripts_are_played_over : {Kept : Type 0} (layer : Layer Kept) → ScriptsArePlayedOver layer
scripts_are_played_over layer counter script began nodes enough = record {
  starts = refl;
  puts = λ t v state inside lt hit.
      put_is counter script layer began enough nodes t v state lt hit;
  steps = λ t v inside lt none.
      steps_as counter script layer began enough nodes t v (faulty_at script t) refl lt none;
  kept = λ t v inside lt.
      keeps_as counter script layer began enough nodes t v (faulty_at script t) refl lt;
  told = λ t u v inside ult vlt.
      told_is script t (played_scene counter script layer began t).states u v
      (omega (arith, ult, nodes)) (omega (arith, vlt, nodes));
}
