-- What is played of each era is a run with the layer, and without it one of the machine; so its
-- outputs count.
use Rattle.std.proofs.Common.{◌≡◌, ℕ, ◌+◌, ◌-◌, ◌<◌, ◌≤◌, ◌%◌, List, [], length, map, sym, ap}
use Rattle.std.proofs.Common.{◌∙◌, subst, arith}
use Rattle.std.specs.Prelude.{false}
use Rattle.std.proofs.lemmas.List.{length-map}
use Rattle.sync_types.specs.States.{State}
use Rattle.construction.specs.Steps.{state_of}
use Rattle.construction.specs.Runs.{is_in, configuration}
use Rattle.counter_core.specs.Meanings.{Meaning, cut}
use Rattle.counter_core.specs.Overlays.{Layer}
use Rattle.machines.specs.Machines.{Machine, IsState, IsToleratedBy, Run, CountsFrom}
use Rattle.adversary_script.specs.Scripts.{Script}
use Rattle.adversary_script.specs.Eras.{first_of_era, end_of_era, faulty_of_era}
use Rattle.adversary_script.specs.ScriptPart.{IsTolerated}
use Rattle.adversary_script.specs.Rounds.{lies_at}
use Rattle.layer_laws.specs.CounterLayers.{IsLayerConfiguration, LayerRound, LayerRun, IsNextScene}
use Rattle.layer_laws.specs.CounterLayers.{without_layer}
use Rattle.layer_laws.specs.Scenes.{Scene}
use Rattle.layer_laws.proofs.CounterCuts.{cut_at}
use Rattle.layer_laws.proofs.CounterSlots.{runs_without_layer_over}
use Rattle.machine_runner.proofs.Eras.{era_long, place_is, neighbours, of_each_era, same_faulty}
use Rattle.machine_runner.proofs.Firsts.{none_inside, none_hit, era_some}
use Rattle.counter_core.proofs.StateLists.{each_below}
use Rattle.player.specs.Counters.{machine_counter}
use Rattle.layer_runner.specs.Laws.{IsPlayable, EraCountsFrom, ErasAreLayerRuns}
use Rattle.layer_runner.specs.Laws.{ErasCount, played_scene, era_scenes}
use Rattle.layer_runner.proofs.CutStates.{state_of-cut}
use Rattle.layer_runner.proofs.MachinesSettle.{machines_settle}
use Rattle.layer_runner.proofs.SceneStates.{configuration_is, table_is}
use Rattle.layer_laws.proofs.SceneSteps.{steps_as}

module _ {Kept : Type 0} (machine : Machine) (script : Script) (layer : Layer Kept)
    (began : List Kept) (is : IsPlayable machine script layer began) (j : ℕ)
    (among : j ≤ length script.eras) where
  abbrev counter : Meaning
  counter = machine_counter machine

  abbrev faulty : List ℕ
  faulty = faulty_of_era script j

  abbrev first : ℕ
  first = first_of_era script j

  abbrev count : ℕ
  count = end_of_era script j - first_of_era script j

  abbrev at : ℕ → Scene Kept
  at t = played_scene machine script layer began t

  abbrev scenes : List (Scene Kept)
  scenes = era_scenes machine script layer began j

  round_is : (t : ℕ) → first ≤ t → t + 1 < end_of_era script j
      → LayerRound counter (IsState machine) layer faulty t (at t)
      (lies_at script t (at t).states) (at (t + 1))
  round_is t low high =
      let none = none_inside script is.read.whole.formed.rising j t among low high in
      record {
        table = table_is machine script layer began is t;
        steps = λ v lt correct. steps_as counter script layer began is.enough is.read.right.nodes t
            v faulty (same_faulty script is.read.whole j among t low (omega arith)) lt
            (none_hit script (t + 1) v none);
      }

  next_is : (t : ℕ) → first ≤ t → t + 1 < end_of_era script j
      → IsNextScene counter (IsState machine) layer faulty t (at t) (at (t + 1))
  next_is t low high = record { lies = lies_at script t (at t).states; round = round_is t low high }

  pub layer_run : LayerRun counter (IsState machine) layer faulty first scenes
  layer_run = record {
    some = let some = era_some script is.read.whole j among in
        omega (arith, some, era_long script at j);
    configurations = each_below (λ s. IsLayerConfiguration counter (IsState machine) layer s.states)
        (λ i. at (first + i)) count
        (λ i lt. configuration_is machine script layer began is (first + i));
    rounds = neighbours script at j (IsNextScene counter (IsState machine) layer faulty)
        (record { states = []; kept = [] }) next_is;
  }

  pub bare_run : Run machine faulty (without_layer counter scenes)
  bare_run = runs_without_layer_over layer counter (IsState machine)
      (machines_settle machine is.sound).front faulty first scenes layer_run

  pub bare_long : length (without_layer counter scenes) ≡ count
  bare_long = length-map scenes (λ (s : Scene Kept). map (cut counter.depth) s.states)
      ∙ era_long script at j

  -- its configurations are those that are played, cut
  pub bare_at : (t : ℕ) → first ≤ t → t < end_of_era script j
      → configuration (without_layer counter scenes) (t - first)
      ≡ map (cut machine.depth) (at t).states
  bare_at t low high =
      let inside : t - first < count = omega arith in
      let back : first + (t - first) ≡ t = omega arith in
      cut_at counter (IsState machine) layer faulty first scenes layer_run (t - first)
      (omega (arith, inside, era_long script at j))
      ∙ ap (λ (s : Scene Kept). map (cut machine.depth) s.states)
      (place_is script at j (t - first) (record { states = []; kept = [] }) inside ∙ ap at back)

  pub borne_in : IsToleratedBy machine faulty
  borne_in =
      let few = of_each_era (IsTolerated machine.nodes machine.faults) script j among
      is.read.right.borne in
      record { rising = few.rising; ids = few.ids; few = few.few }

  -- outputs of the run that count are those that are played
  pub counts_from : (from : ℕ) → CountsFrom machine faulty (without_layer counter scenes) from
      → EraCountsFrom machine script layer began j (first + from)
  counts_from from counts = record {
    output = λ t. counts.output (t - first);
    shows = λ t lo hi v lt correct.
        let low : first ≤ t = omega arith in
        let bad = subst (λ (f : List ℕ). is_in f v ≡ false)
        (same_faulty script is.read.whole j among t low hi) correct in
        let shown = counts.shows (t - first) (omega arith) (omega (arith, bare_long)) v lt bad in
        sym (ap (λ (config : List State). machine.shows v (state_of config v)) (bare_at t low hi)
        ∙ ap (machine.shows v) (state_of-cut machine.depth (at t).states v)
        ∙ is.sound.further.shows v lt (state_of (at t).states v))
        ∙ shown;
    grows = λ t lo hi.
        let next : t + 1 - first ≡ t - first + 1 = omega arith in
        subst (λ (i : ℕ). counts.output i ≡ (counts.output (t - first) + 1) % machine.modulus)
        (sym next) (counts.grows (t - first) (omega arith) (omega (arith, bare_long)));
  }

pub eras_are_layer_runs : {Kept : Type 0} (layer : Layer Kept) → ErasAreLayerRuns layer
eras_are_layer_runs layer machine script began is j among = record {
  run = layer_run machine script layer began is j among;
  rounds = round_is machine script layer began is j among;
  bare = bare_run machine script layer began is j among;
}

pub eras_count : {Kept : Type 0} (layer : Layer Kept) → ErasCount layer
eras_count layer machine script began is j among =
    counts_from machine script layer began is j among machine.bound
    (is.sound.settles (faulty_of_era script j) _
    (borne_in machine script layer began is j among)
    (bare_run machine script layer began is j among))
