-- What was read of an input of a plan, a part for the plan's counter, and a script for both.
use Rattle.std.specs.Prelude.{◌≡◌, ℕ, List, Option, Result, Ok}
use Rattle.texts.specs.Parts.{At, Found}
use Rattle.sync_types.specs.declared.answers.Part.{Part}
use Rattle.sync_types.specs.declared.answers.Rule.{Rule}
use Rattle.adversary_script.specs.ScriptPart.{IsScriptForPlan}
use Rattle.plan_laws.specs.PlanMeaning.{plan_meaning}
use Rattle.round_runner.specs.Locks.{is_locked}
use Rattle.layer_laws.specs.Numbers.{Numbers, numbers_of}
use Rattle.layer_parts.specs.declared.registers.Registers.{Registers}
use Rattle.layer_parts.specs.LayerWords.{LayerWords}
use Rattle.outcomes.specs.declared.refusals.Refusal.{Refusal}
use Rattle.outcomes.specs.Layered.{shape_for, layered_by}
use Rattle.outcomes.specs.Answers.{text_by}
use Rattle.answers.specs.declared.layered.ToPlay.{ToPlay}

module _ {Content : Type 0} (name : Part)
    (part_over : Numbers → (number : ℕ) → List (List ℕ) → Result (Found Content) (At Rule))
    (registers : Content → Option Registers) where
  -- the input is read so, and this is made of what its part says
  pub record IsLayered {Made : Type 0} (IsMade : Numbers → Content → Made → Type 0) (input : List ℕ)
      (made : Made) (read : ToPlay) : Type 0 where
    pub said : Content
    pub is : layered_by name part_over registers input
        ≡ Ok (record { plan = read.plan; said = said; script = read.script })
    pub made_is : IsMade (numbers_of read.plan) said made
    pub shape_is : read.shape ≡ shape_for read.plan (registers said)
    pub right : IsScriptForPlan read.plan read.shape read.script

  -- what is written of it, if the part says a layer
  abbrev pub layer_answer : {Kept : Type 0} → LayerWords Content Kept → List ℕ
      → Result (List ℕ) Refusal
  layer_answer words input =
      text_by (λ l. words.text (plan_meaning l.plan) (is_locked l.plan) l.script l.said)
      (layered_by name part_over registers input)
