-- What is played of each era counts, if it is a run with the layer.
use Rattle.std.proofs.Common.{◌≡◌, ℕ, ◌+◌, ◌-◌, ◌<◌, ◌≤◌, List, [], length, map, sym, ap, ◌∙◌}
use Rattle.std.proofs.Common.{arith}
use Rattle.std.proofs.lemmas.List.{length-map}
use Rattle.sync_types.specs.States.{State}
use Rattle.counter_core.specs.Meanings.{Meaning, cut}
use Rattle.counter_core.specs.Overlays.{Layer}
use Rattle.adversary_script.specs.Scripts.{Script}
use Rattle.adversary_script.specs.Eras.{first_of_era, end_of_era, faulty_of_era}
use Rattle.machine_runner.proofs.Eras.{era_long, place_is, of_each_era}
use Rattle.construction.specs.Machines.{CountsFrom}
use Rattle.layer_laws.specs.Counters.{Bears}
use Rattle.layer_laws.specs.CounterLayers.{scene, without_layer}
use Rattle.layer_laws.specs.Scenes.{Scene}
use Rattle.layer_laws.proofs.CounterSteps.{shown_at}
use Rattle.layer_laws.proofs.CounterSlots.{counts_of}
use Rattle.layer_runner.specs.PlayedEras.{PlaysEras, era_scenes}
use Rattle.layer_runner.specs.CountedSlots.{PlayedErasCount}
use Rattle.layer_runner.specs.Counting.{EraCounts}
use Rattle.layer_runner.specs.PlayedTexts.{scene_in}
use Rattle.layer_runner.specs.SlotTexts.{output_of}

-- the places of a run are the configurations of its era
module _ {Kept : Type 0} (counter : Meaning) (script : Script) (layer : Layer Kept)
    (began : List Kept) (j : ℕ) where
  abbrev at : ℕ → Scene Kept
  at t = scene_in counter script layer began t

  pub run_long : length (era_scenes counter script layer began j)
      ≡ end_of_era script j - first_of_era script j
  run_long = era_long script at j

  pub scene_is : (t : ℕ) → first_of_era script j ≤ t → t < end_of_era script j
      → scene (era_scenes counter script layer began j) (t - first_of_era script j)
      ≡ scene_in counter script layer began t
  scene_is t lo hi =
      let here : first_of_era script j + (t - first_of_era script j) ≡ t = omega (arith, lo) in
      place_is script at j (t - first_of_era script j) (record { states = []; kept = [] })
      (omega (arith, lo, hi)) ∙ ap at here

module _ {Kept : Type 0} (counter : Meaning) (is_state : (v : ℕ) → State → Type 0)
    (script : Script) (layer : Layer Kept) (began : List Kept)
    (plays : PlaysEras counter is_state script layer began) (j : ℕ)
    (among : j ≤ length script.eras) where
  abbrev run : List (Scene Kept)
  run = era_scenes counter script layer began j

  abbrev faulty : List ℕ
  faulty = faulty_of_era script j

  counts : CountsFrom counter faulty (without_layer counter run) counter.bound
  counts =
      counts_of counter is_state layer plays.settling faulty
      (of_each_era (Bears counter) script j among plays.borne) (first_of_era script j) run
      (plays.eras j among)

  cut_long : length (without_layer counter run) ≡ end_of_era script j - first_of_era script j
  cut_long = length-map run (λ (s : Scene Kept). map (cut counter.depth) s.states)
      ∙ run_long counter script layer began j

  pub era_counts : EraCounts counter script layer began j
  era_counts = record {
    output = λ t. counts.output (t - first_of_era script j);
    shows = λ t lo hi v lt correct.
        ap (λ (s : Scene Kept). output_of counter s.states v)
        (sym (scene_is counter script layer began j t (omega (arith, lo)) hi))
        ∙ shown_at counter is_state layer faulty (first_of_era script j) run (plays.eras j among)
        plays.settling.front counts (t - first_of_era script j) v
        (omega (arith, lo)) (omega (arith, lo, hi, run_long counter script layer began j)) lt
        correct;
    grows = λ t lo hi.
        let next : t + 1 - first_of_era script j ≡ t - first_of_era script j + 1 =
        omega (arith, lo) in
        ap counts.output next
        ∙ counts.grows (t - first_of_era script j) (omega (arith, lo))
        (omega (arith, lo, hi, cut_long));
  }

pub played_eras_count : {Kept : Type 0} (layer : Layer Kept) (counter : Meaning)
    (is_state : (v : ℕ) → State → Type 0) → PlayedErasCount layer counter is_state
played_eras_count layer counter is_state script began plays = record {
  quorum = plays.settling.quorum;
  least = plays.settling.least;
  whole = plays.whole;
  borne = plays.borne;
  eras = era_counts counter is_state script layer began plays;
}
