-- What was read of an input with a part that says a layer is played as it is defined.
use Rattle.std.proofs.Common.{◌≡◌, ℕ, List, replicate, Option, Result, Ok, sym, ap, ◌∙◌, subst}
use Rattle.texts.specs.Parts.{At, Found}
use Rattle.sync_types.specs.declared.answers.Part.{Part}
use Rattle.sync_types.specs.declared.answers.Rule.{Rule}
use Rattle.state_codec.specs.Shapes.{Shape}
use Rattle.adversary_script.specs.Scripts.{Script}
use Rattle.counter_core.specs.Overlays.{Layer}
use Rattle.machines.specs.Machines.{Machine}
use Rattle.machine_runner.specs.Locks.{is_locked}
use Rattle.layer_laws.specs.Numbers.{Numbers}
use Rattle.player.specs.Counters.{machine_counter}
use Rattle.player.specs.ReadOver.{IsReadWithLayer}
use Rattle.layer_runner.specs.Laws.{IsPlayable}
use Rattle.layer_runner.specs.PlayedTexts.{Wording, played_text}
use Rattle.layer_parts.specs.declared.registers.Registers.{Registers}
use Rattle.layer_parts.specs.CounterParts.{IsSoundPart}
use Rattle.layer_parts.specs.LayerWords.{LayerWords, IsFresh, IsSoundLayer}
use Rattle.halving_plan.specs.Plans.{HalvingNumbers}
use Rattle.halving_plan.specs.Laws.{machine_in}
use Rattle.halving_runs.specs.RunInputs.{Layered}
use Rattle.halving_runs.specs.RunTexts.{told_by, layer_run}
use Rattle.halving_runs.specs.Readings.{IsScriptForHalving}
use Rattle.halving_runs.specs.LayerReadings.{IsLayered}
use Rattle.halving_runs.specs.LayerInputs.{numbers_of}
use Rattle.halving_runs.proofs.Playable.{layer_plays, all_count}

module _ {Content Kept Made : Type 0} (name : Part)
    (part_over : Numbers → (number : ℕ) → List (List ℕ) → Result (Found Content) (At Rule))
    (registers : Content → Option Registers) (Fits : Numbers → Content → Type 0)
    (IsMade : Numbers → Content → Made → Type 0) (few : IsSoundPart part_over registers Fits)
    (words : LayerWords Content Kept) (right : IsSoundLayer words registers Fits) (input : List ℕ)
    (made : Made) (s : HalvingNumbers × Shape × Script)
    (read : IsLayered name part_over registers Fits IsMade input (made, s)) (layer : Layer Kept)
    (kept : List Kept) (fresh : IsFresh words (numbers_of s.0) read.said layer kept) where
  abbrev machine : Machine
  machine = machine_in s.0

  abbrev said_layer : Layer Kept
  said_layer = words.layer (numbers_of s.0) read.said

  abbrev began : List Kept
  began = replicate machine.nodes words.first

  plays : IsPlayable machine s.2 said_layer began
  plays =
      layer_plays part_over registers Fits few words right s.0 read.accepted s.2 read.said read.fits
      (subst (λ (h : Shape). IsScriptForHalving s.0 h s.2) read.shape read.script)

  -- the script is for the machine with the layer
  pub layer_for : IsReadWithLayer machine layer s.2
  layer_for =
      subst (λ (l : Layer Kept). IsReadWithLayer machine l s.2) (sym fresh.layer_is) plays.read

  -- what is written while it is played is what is defined
  pub layer_text : (wording : Wording Kept) → wording ≡ words.wording (numbers_of s.0)
      → layer_run name part_over registers words input
      ≡ Ok (played_text (machine_counter machine) (is_locked machine) s.2 layer kept wording)
  layer_text wording is =
      rw (fresh.layer_is, fresh.kept_is, is)
      (ap (told_by (λ (l : Layered Content).
      let m : Machine = machine_in l.plan in
      words.text (machine_counter m) (is_locked m) l.script l.said)) read.is
      ∙ ap Ok (sym (right.as_defined (machine_counter machine) (is_locked machine) s.2 read.said
      read.fits (all_count machine s.2 said_layer began plays))))
