-- A script that was read with a part after a halving plan can be played with the part's layer, and
-- then each of its eras counts.
use Rattle.std.proofs.Common.{ℕ, List, replicate, Option, Result, inr, ap, ◌∙◌, subst, arith}
use Rattle.std.specs.Prelude.{IfSome}
use Rattle.std.proofs.lemmas.List.{length-replicate}
use Rattle.std.proofs.lemmas.List.Elements.{All-weaker}
use Rattle.texts.specs.Parts.{At, Found}
use Rattle.sync_types.specs.FaultSets.{is_in}
use Rattle.sync_types.specs.declared.answers.Rule.{Rule}
use Rattle.counter_core.specs.Overlays.{Layer}
use Rattle.machines.specs.Machines.{Machine}
use Rattle.machines.specs.Laws.{IsSound}
use Rattle.adversary_script.specs.Scripts.{Script, faulty_sets}
use Rattle.adversary_script.specs.Eras.{faulty_of_era}
use Rattle.adversary_script.specs.ScriptPart.{IsTolerated}
use Rattle.machine_runner.proofs.Firsts.{in_era}
use Rattle.layer_laws.specs.Counters.{Bears}
use Rattle.layer_laws.specs.CounterPlayed.{IsKeptFor}
use Rattle.player.specs.Counters.{machine_counter}
use Rattle.layer_runner.specs.Laws.{IsPlayable}
use Rattle.layer_runner.proofs.EraScenes.{eras_count}
use Rattle.layer_runner.specs.Counting.{ErasCount}
use Rattle.consensus_layer.specs.AgreeContent.{AgreeContent}
use Rattle.consensus_layer.specs.AgreePart as agree
use Rattle.firing.specs.declared.requests.Request.{Request}
use Rattle.firing.specs.FirePart as fire
use Rattle.replicated_log.specs.LogContent.{LogContent}
use Rattle.replicated_log.specs.LogPart as log
use Rattle.layer_laws.specs.Numbers.{Numbers}
use Rattle.layer_parts.specs.declared.registers.Registers.{Registers}
use Rattle.layer_parts.specs.CounterParts.{AreFew, IsSoundPart}
use Rattle.layer_parts.specs.LayerWords.{LayerWords, registers_of, IsSoundLayer}
use Rattle.layer_parts.specs.Layers.{agree_registers, agree_words, fire_registers, fire_words}
use Rattle.layer_parts.specs.Layers.{log_registers, log_words}
use Rattle.layer_parts.specs.SoundLayers.{agree_sound, agree_right, fire_sound, fire_right}
use Rattle.layer_parts.specs.SoundLayers.{log_sound, log_right}
use Rattle.halving_plan.specs.Plans.{HalvingNumbers, IsAccepted}
use Rattle.halving_plan.specs.Laws.{machine_in}
use Rattle.halving_plan.proofs.Sound.{accepted_are_sound}
use Rattle.halving_runs.specs.LayerInputs.{numbers_of, agree_shape, fire_shape, log_shape}
use Rattle.halving_runs.specs.LayerShapes.{shape_for}
use Rattle.halving_runs.specs.LayerReadings.{FitsAgreed, FitsRequests, FitsLog}
use Rattle.halving_runs.specs.LayerPromises.{agreeing, undecided, firing_on, none_fired, logging}
use Rattle.halving_runs.specs.LayerPromises.{nothing_logged}
use Rattle.halving_runs.specs.Readings.{IsScriptForHalving}
use Rattle.halving_runs.proofs.ReadOver.{read_over}

-- something is kept for each node
kept_for : {Kept : Type 0} (n : ℕ) (x : Kept) → IsKeptFor n (replicate n x)
kept_for n x = inr (omega (arith, length-replicate n x))

-- a part that says a layer
module _ {Content Kept : Type 0}
    (part_over : Numbers → (number : ℕ) → List (List ℕ) → Result (Found Content) (At Rule))
    (registers : Content → Option Registers) (Fits : Numbers → Content → Type 0)
    (few : IsSoundPart part_over registers Fits) (words : LayerWords Content Kept)
    (right : IsSoundLayer words registers Fits) (plan : HalvingNumbers) (accepted : IsAccepted plan)
    (script : Script) where
  pub layer_plays : (said : Content) → Fits (numbers_of plan) said
      → IsScriptForHalving plan (shape_for plan (registers said)) script
      → IsPlayable (machine_in plan) script (words.layer (numbers_of plan) said)
      (replicate (machine_in plan).nodes words.first)
  layer_plays said fits for =
      let sound : IsSound (machine_in plan) = accepted_are_sound plan accepted in
      let is = right.registers_are (numbers_of plan) said in
      let range : AreFew (registers_of (words.layer (numbers_of plan) said)) =
      subst (λ (more : Option Registers). IfSome more AreFew) is
      (few.few (numbers_of plan) said fits) in
      record {
        sound = sound;
        keeps = right.keeps (numbers_of plan) said sound.quorum fits;
        read = read_over plan accepted (words.layer (numbers_of plan) said) range.least range.most
            (right.fits (machine_counter (machine_in plan)) said) script
            (subst (λ (more : Option Registers). IsScriptForHalving plan
            (shape_for plan more) script) is for);
        enough = kept_for (machine_in plan).nodes words.first;
      }

-- ---- the three layers

module _ (plan : HalvingNumbers) (accepted : IsAccepted plan) (script : Script) where
  pub agreement_plays : (said : AgreeContent) → FitsAgreed plan said
      → IsScriptForHalving plan (agree_shape plan said) script
      → IsPlayable (machine_in plan) script (agreeing plan said) (undecided plan)
  agreement_plays =
      layer_plays agree.part_over agree_registers agree.IsForNumbers agree_sound agree_words
      agree_right plan accepted script

  pub firing_plays : (requests : List Request) → FitsRequests plan requests
      → IsScriptForHalving plan (fire_shape plan requests) script
      → IsPlayable (machine_in plan) script (firing_on plan requests) (none_fired plan)
  firing_plays =
      layer_plays fire.part_over fire_registers fire.AreForNumbers fire_sound fire_words
      fire_right plan accepted script

  pub log_plays : (said : LogContent) → FitsLog plan said
      → IsScriptForHalving plan (log_shape plan said) script
      → IsPlayable (machine_in plan) script (logging plan said) (nothing_logged plan)
  log_plays =
      layer_plays log.part_over log_registers log.IsForNumbers log_sound log_words log_right plan
      accepted script

-- ---- what can be played counts

module _ {Kept : Type 0} (machine : Machine) (script : Script) (layer : Layer Kept)
    (began : List Kept) (plays : IsPlayable machine script layer began) where
  borne_by : (faulty : List ℕ) → IsTolerated machine.nodes machine.faults faulty
      → Bears (machine_counter machine) faulty
  borne_by faulty is = record { rising = is.rising; ids = is.ids; few = is.few }

  pub all_count : ErasCount (machine_counter machine) script layer began
  all_count = record {
    quorum = plays.sound.quorum;
    least = plays.sound.least_modulus;
    whole = plays.read.whole;
    borne = All-weaker (IsTolerated machine.nodes machine.faults)
        (Bears (machine_counter machine)) borne_by (faulty_sets script)
        plays.read.right.borne;
    eras = λ j among.
        let counts = eras_count layer machine script began plays j among in
        record {
          output = counts.output;
          shows = λ t from before v lt correct.
              counts.shows t from before v lt
              (ap (λ (e : ℕ). is_in (faulty_of_era script e) v)
              (in_era script plays.read.whole.formed.rising j t among (omega (arith, from)) before)
              ∙ correct);
          grows = counts.grows;
        };
  }
