-- What is written of an input with a part for the plan's counter, by what was read of it.
use Rattle.std.proofs.Common.{◌≡◌, ℕ, List, [], replicate, Option, Result, Ok, refl, sym, ap, ◌∙◌}
use Rattle.std.proofs.Common.{subst}
use Rattle.std.specs.Prelude.{IfOk}
use Rattle.texts.specs.Parts.{At, Found}
use Rattle.sync_types.specs.declared.answers.Rule.{Rule}
use Rattle.sync_types.specs.declared.answers.Part.{Part}
use Rattle.construction.specs.Plans.{Plan, plan_nodes}
use Rattle.plan_laws.specs.PlanMeaning.{plan_meaning}
use Rattle.state_codec.specs.Shapes.{Shape, shape_with}
use Rattle.counter_core.specs.Overlays.{Layer, LayerFits}
use Rattle.counter_core.specs.NoLayers.{no_layer}
use Rattle.adversary_script.specs.Scripts.{Script, IsScript}
use Rattle.round_runner.specs.Locks.{is_locked}
use Rattle.slot_table.specs.declared.lines.SlotLine.{SlotLine}
use Rattle.layer_laws.specs.Numbers.{Numbers, numbers_of}
use Rattle.layer_parts.specs.declared.registers.Registers.{Registers}
use Rattle.layer_parts.specs.CounterParts.{IsSoundPart}
use Rattle.layer_parts.specs.LayerWords.{LayerWords, IsFresh, IsSoundLayer}
use Rattle.run_lines.specs.PlayedTexts.{Wording, played_text}
use Rattle.run_lines.specs.HoldTexts.{hold_text, hold_wording}
use Rattle.run_lines.proofs.ErasCounted.{eras_counted}
use Rattle.run_lines.proofs.ShownLaws.{holds_as_defined}
use Rattle.outcomes.specs.declared.refusals.Refusal.{Refusal}
use Rattle.outcomes.specs.declared.commands.Batch.TheVariants as batch
use Rattle.outcomes.specs.Layered.{Layered, shape_for, layered_by, slotted_of}
use Rattle.outcomes.specs.Answers.{text_by, answer_of}
use Rattle.outcomes.proofs.LayeredRead.{IsToPlay, so, layer_to_play, slots_read}
use Rattle.answers.specs.LayeredReads.{layer_answer}

-- what is fresh is so under another name
pub fresh_as : {O Content Kept : Type 0} (words : LayerWords Content Kept)
    (layer_of : O → Layer Kept)
    (kept_of : O → List Kept) (numbers : Numbers) (said : Content) (o p : O) → p ≡ o
    → IsFresh words numbers said (layer_of o) (kept_of o)
    → IsFresh words numbers said (layer_of p) (kept_of p)
fresh_as words layer_of kept_of numbers said o p is =
    subst (λ x. IsFresh words numbers said (layer_of x) (kept_of x)) (sym is)

module _ {Content Kept : Type 0} (name : Part)
    (part_over : Numbers → (number : ℕ) → List (List ℕ) → Result (Found Content) (At Rule))
    (registers : Content → Option Registers) (Fits : Numbers → Content → Type 0)
    (sound : IsSoundPart part_over registers Fits) (words : LayerWords Content Kept)
    (right : IsSoundLayer words registers Fits) where
  abbrev FitsPlan : Plan → Content → Type 0
  FitsPlan plan = Fits (numbers_of plan)

  abbrev layer_of : Plan → Content → Layer Kept
  layer_of plan = words.layer (numbers_of plan)

  module _ (input : List ℕ) (plan : Plan) (said : Content) (script : Script)
      (read : layered_by name part_over registers input
      ≡ Ok (record { plan = plan; said = said; script = script })) where
    to_play : IsToPlay FitsPlan layer_of (record { plan = plan; said = said; script = script })
    to_play =
        subst (λ (r : Result (Layered Content) Refusal). IfOk r (IsToPlay FitsPlan layer_of)) read
        (layer_to_play name part_over registers Fits sound words right input)

    -- what was said is for the plan's counter
    pub said_fits : FitsPlan plan said
    said_fits = to_play.fits

    module _ (layer : Layer Kept) (kept : List Kept)
        (fresh : IsFresh words (numbers_of plan) said layer kept) where
      -- so is the layer
      pub layer_fits : LayerFits layer (plan_meaning plan)
      layer_fits =
          subst (λ (l : Layer Kept). LayerFits l (plan_meaning plan)) (sym fresh.layer_is)
          (right.fits (plan_meaning plan) said)

      -- and the states have its registers
      pub shape_fits : (shape : Shape) → shape ≡ shape_for plan (registers said)
          → shape ≡ shape_with plan layer.values layer.extra
      shape_fits shape is =
          is ∙ ap (shape_for plan) (right.registers_are (numbers_of plan) said)
          ∙ ap (λ (l : Layer Kept). shape_with plan l.values l.extra) (sym fresh.layer_is)

      -- what is written while the script is played is what is defined
      pub layer_text : (played_plan : Plan) (played : Script) (wording : Wording Kept)
          → played_plan ≡ plan → played ≡ script → wording ≡ words.wording (numbers_of plan)
          → layer_answer name part_over registers words input
          ≡ Ok (played_text played_plan played layer kept wording)
      layer_text played_plan played wording p s w =
          rw (p, s, w, fresh.layer_is, fresh.kept_is)
          (ap (text_by (λ (l : Layered Content).
          words.text (plan_meaning l.plan) (is_locked l.plan) l.script l.said)) read
          ∙ ap Ok (sym (right.as_defined (plan_meaning plan) (is_locked plan) script said said_fits
          (eras_counted plan script (layer_of plan said)
          (replicate (plan_nodes plan) words.first) to_play.accepted to_play.right to_play.sound
          to_play.whole))))

-- ---- a slot table

abbrev HasScript : Layered (List SlotLine) → Type 0
HasScript l = IsScript l.script

slots_whole : (input : List ℕ) → IfOk (slotted_of input) HasScript
slots_whole input = so (slotted_of input) (slots_read input) (λ l is. is.whole)

pub slots_text : (input : List ℕ) (plan played_plan : Plan) (script played : Script)
    (table made : List SlotLine)
    → slotted_of input ≡ Ok (record { plan = plan; said = table; script = script })
    → made ≡ table → played_plan ≡ plan → played ≡ script
    → answer_of batch.Slots input
    ≡ Ok (played_text played_plan played no_layer [] (hold_wording made))
slots_text input plan played_plan script played table made read m p s =
    let whole : IsScript script =
    subst (λ (r : Result (Layered (List SlotLine)) Refusal). IfOk r HasScript) read
    (slots_whole input) in
    rw (p, s, m)
    (ap (text_by (λ (l : Layered (List SlotLine)). hold_text l.plan l.script l.said)) read
    ∙ ap Ok (sym (holds_as_defined plan script table whole.formed.shown)))
