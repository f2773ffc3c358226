-- What is played of a script with a layer is the script's, and each era is a run with the layer.
use Rattle.std.proofs.Common.{◌≡◌, ℕ, ◌+◌, ◌-◌, ◌<◌, ◌≤◌, List, []}
use Rattle.std.proofs.Common.{length, ap, subst}
use Rattle.std.proofs.Common.{arith}
use Rattle.std.proofs.lemmas.List.{length-map}
use Rattle.std.proofs.lemmas.List.Elements.{All-get_or}
use Rattle.std.proofs.lemmas.List.FromFn.{length-map-range_with_len, get_or-map-range_with_len}
use Rattle.construction.specs.Plans.{Plan, plan_nodes}
use Rattle.construction.specs.Runs.{IsState, IsToleratedBy}
use Rattle.plan_laws.specs.PlanMeaning.{plan_meaning}
use Rattle.counter_core.specs.Overlays.{Layer, KeepsRange}
use Rattle.adversary_script.specs.Scripts.{Script, Era, faulty_sets}
use Rattle.adversary_script.specs.Eras.{first_of_era, end_of_era, faulty_of_era, faulty_at}
use Rattle.layer_laws.specs.Scenes.{Scene}
use Rattle.layer_laws.specs.LayerRuns.{IsLayerConfiguration, IsNextScene, LayerRound, LayerRun}
use Rattle.layer_laws.specs.LayerRuns.{IsLayerTable, scene}
use Rattle.layer_laws.specs.Played.{IsKeptFor}
use Rattle.counter_core.proofs.StateLists.{each_below}
use Rattle.layer_laws.proofs.PlanCounters.{plans_settle}
use Rattle.layer_runner.specs.PlayedEras.{PlaysEras}
use Rattle.layer_laws.proofs.SceneSteps.{steps_as}
use Rattle.layer_runner.proofs.PlayedScripts.{scripts_are_played_over}
use Rattle.machine_runner.proofs.Firsts.{in_era, none_inside, none_hit, era_some}
use Rattle.promises.specs.LayeredEras.{IsReadFor, played_scene, lies_played, era_scenes}
use Rattle.promises.specs.LayeredEras.{PlaysScript, ScriptsArePlayed}
use Rattle.promises.proofs.States.{table_is, in_range_at, configuration_is}
use Rattle.promises.proofs.SaidLines.{says_lines}

module _ {Kept : Type 0} (layer : Layer Kept) (plan : Plan) (script : Script)
    (keeps : KeepsRange layer) (is : IsReadFor plan layer script) (began : List Kept)
    (enough : IsKeptFor (plan_nodes plan) began) where
  abbrev at : ℕ → Scene Kept
  at t = played_scene plan script layer began t

  -- the table of what is told is in range
  table_in : (t : ℕ) → IsLayerTable plan layer (lies_played plan script layer began t)
  table_in t = table_is plan script layer keeps is t (at t).states
      (in_range_at plan script layer keeps is began t)

  module _ (j : ℕ) (among : j ≤ length script.eras) where
    abbrev first : ℕ
    first = first_of_era script j

    abbrev count : ℕ
    count = end_of_era script j - first_of_era script j

    round_is : (t : ℕ) → first ≤ t → t + 1 < end_of_era script j
        → LayerRound plan layer (faulty_of_era script j) t (at t)
        (lies_played plan script layer began t) (at (t + 1))
    round_is t low high =
        let rising = is.whole.formed.rising in
        let same : faulty_at script t ≡ faulty_of_era script j =
        ap (faulty_of_era script) (in_era script rising j t among low (omega arith)) in
        let none = none_inside script rising j t among low high in
        record {
          table = table_in t;
          steps = λ v lt correct. steps_as (plan_meaning plan) script layer began enough
              is.right.nodes t v (faulty_of_era script j) same lt (none_hit script (t + 1) v none);
        }

    next_is : (t : ℕ) → first ≤ t → t + 1 < end_of_era script j
        → IsNextScene plan layer (faulty_of_era script j) t (at t) (at (t + 1))
    next_is t low high =
        record { lies = lies_played plan script layer began t; round = round_is t low high }

    pub era_is_run : LayerRun plan layer (faulty_of_era script j) first
        (era_scenes plan script layer began j)
    era_is_run =
        let f : ℕ → Scene Kept = λ i. at (first + i) in
        let long = length-map-range_with_len f 0 count in
        let scene_is : (i : ℕ) → i < count
        → scene (era_scenes plan script layer began j) i ≡ at (first + i) =
        λ i lt. get_or-map-range_with_len f 0 count i i (record { states = []; kept = [] }) lt
        (omega arith) in
        record {
          some = let some = era_some script is.whole j among in omega (arith, some, long);
          configurations = each_below (λ s. IsLayerConfiguration plan layer s.states) f count
              (λ i lt. configuration_is plan script layer keeps is began (first + i));
          rounds = λ i lt.
              let here = scene_is i (omega (arith, lt, long)) in
              let there = scene_is (i + 1) (omega (arith, lt, long)) in
              let next : first + i + 1 ≡ first + (i + 1) = omega arith in
              rw (here, there) (subst (λ t. IsNextScene plan layer (faulty_of_era script j)
              (first + i) (at (first + i)) (at t)) next
              (next_is (first + i) (omega arith) (omega (arith, lt, long))));
        }

    borne_in : IsToleratedBy plan (faulty_of_era script j)
    borne_in = All-get_or (IsToleratedBy plan) (faulty_sets script) j []
        (omega (arith, among, length-map script.eras (λ (era : Era). era.faulty))) is.right.borne

  -- so what lines say of any counter, they say of the plan's
  pub plays_eras : PlaysEras (plan_meaning plan) (IsState plan) script layer began
  plays_eras = record {
    settling = plans_settle plan is.accepted;
    whole = is.whole;
    borne = is.right.borne;
    eras = era_is_run;
  }

  plays_script : PlaysScript plan script layer began
  plays_script = record {
    says = says_lines script;
    plays = scripts_are_played_over layer (plan_meaning plan) script began is.right.nodes enough;
    borne = borne_in;
    eras = λ j among. record { run = era_is_run j among; rounds = round_is j among };
  }

pub scripts_are_played : {Kept : Type 0} (layer : Layer Kept) → ScriptsArePlayed layer
scripts_are_played layer plan script keeps is began enough =
    plays_script layer plan script keeps is began enough
