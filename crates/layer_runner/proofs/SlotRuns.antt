-- A slot that counts and begins in a configuration, in the run of its era.
use Rattle.std.proofs.Common.{◌≡◌, ℕ, ◌+◌, ◌-◌, ◌<◌, ◌≤◌, true, false, List, length, sym, ap, ◌∙◌}
use Rattle.std.proofs.Common.{subst, arith}
use Rattle.sync_types.specs.FaultSets.{is_in}
use Rattle.sync_types.specs.States.{State}
use Rattle.counter_core.specs.Meanings.{Meaning}
use Rattle.counter_core.specs.Overlays.{Layer}
use Rattle.adversary_script.specs.Scripts.{Script}
use Rattle.adversary_script.specs.Eras.{era_of, first_of_era, faulty_of_era, faulty_at}
use Rattle.machine_runner.proofs.Eras.{of_each_era}
use Rattle.machine_runner.proofs.Firsts.{era_within}
use Rattle.layer_laws.specs.Counters.{Bears}
use Rattle.layer_laws.specs.CounterLayers.{LayerRun, scene}
use Rattle.layer_laws.specs.CounterSlots.{AllAre}
use Rattle.layer_laws.specs.Scenes.{Scene}
use Rattle.layer_runner.specs.PlayedEras.{PlaysEras, era_scenes}
use Rattle.layer_runner.specs.CountedSlots.{SlotCounts}
use Rattle.layer_runner.specs.Counting.{ErasCount}
use Rattle.layer_runner.specs.PlayedTexts.{scene_in, configuration_in}
use Rattle.layer_runner.specs.SlotTexts.{begins_at}
use Rattle.layer_runner.proofs.CountedSlots as counted
use Rattle.layer_runner.proofs.EraCounting.{run_long, played_eras_count}
use Rattle.layer_runner.proofs.EraCounting as eras
use Rattle.layer_runner.proofs.SlotParts.{before_end}

module _ {Kept : Type 0} (counter : Meaning) (is_state : (v : ℕ) → State → Type 0)
    (script : Script) (layer : Layer Kept) (began : List Kept)
    (plays : PlaysEras counter is_state script layer began) (q t : ℕ)
    (begins : begins_at counter script q t (scene_in counter script layer began t).states ≡ true)
  where
    abbrev first : ℕ
    first = first_of_era script (era_of script t)

    abbrev faulty : List ℕ
    faulty = faulty_of_era script (era_of script t)

    abbrev run : List (Scene Kept)
    run = era_scenes counter script layer began (era_of script t)

    pub counts : ErasCount counter script layer began
    counts = played_eras_count layer counter is_state script began plays

    slot : SlotCounts counter script (configuration_in counter script layer began) q t
    slot = counted.counts counter script layer began counts q t begins

    pub borne : Bears counter (faulty_of_era script (era_of script t))
    borne = of_each_era (Bears counter) script (era_of script t) (era_within script t) plays.borne

    pub is_run : LayerRun counter is_state layer (faulty_of_era script (era_of script t))
        (first_of_era script (era_of script t))
        (era_scenes counter script layer began (era_of script t))
    is_run = plays.eras (era_of script t) (era_within script t)

    pub past_bound : first_of_era script (era_of script t) + counter.bound < t
    past_bound = slot.late

    pub past : counter.bound < t - first_of_era script (era_of script t)
    past = omega (arith, past_bound)

    pub ends : t - first_of_era script (era_of script t) + q
        < length (era_scenes counter script layer began (era_of script t))
    ends =
        let before = before_end counter.bound script q t
        (counted.counting counter script layer began counts q t begins) plays.whole in
        omega (arith, run_long counter script layer began (era_of script t), before, past_bound)

    pub scene_is : (x : ℕ) → x ≤ q → scene (era_scenes counter script layer began (era_of script t))
        (t - first_of_era script (era_of script t) + x)
        ≡ scene_in counter script layer began (t + x)
    scene_is x le =
        let place : t - first + x ≡ t + x - first = omega (arith, past_bound) in
        let long = run_long counter script layer began (era_of script t) in
        ap (scene run) place
        ∙ eras.scene_is counter script layer began (era_of script t) (t + x)
        (omega (arith, past_bound)) (omega (arith, ends, long, le))

    pub scene_here : scene (era_scenes counter script layer began (era_of script t))
        (t - first_of_era script (era_of script t)) ≡ scene_in counter script layer began t
    scene_here =
        let long = run_long counter script layer began (era_of script t) in
        eras.scene_is counter script layer began (era_of script t) t (omega (arith, past_bound))
        (omega (arith, ends, long))

    pub all_are : AllAre counter (faulty_of_era script (era_of script t))
        (scene (era_scenes counter script layer began (era_of script t))
        (t - first_of_era script (era_of script t))).states q 0
    all_are =
        subst (λ (s : Scene Kept). AllAre counter faulty s.states q 0) (sym scene_here) slot.rest

    -- who is faulty at the slot's end was so at its beginning
    pub correct_there : (v : ℕ) → is_in (faulty_at script (t + q)) v ≡ false
        → is_in (faulty_of_era script (era_of script t)) v ≡ false
    correct_there v = subst (λ j. is_in (faulty_of_era script j) v ≡ false) slot.inside
