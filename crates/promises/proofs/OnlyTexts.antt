-- What an input with a part between plan and script is read as, the text of that is read as.
use Rattle.std.proofs.Common.{ℕ, ◌+◌, ◌≤◌, List, length, All, Result, Ok, Err, arith}
use Rattle.std.specs.Prelude.{IfOk}
use Rattle.texts.specs.Parts.{At, Found}
use Rattle.sync_types.specs.declared.answers.Premise.{Premise}
use Rattle.sync_types.specs.declared.answers.Rule.{Rule}
use Rattle.sync_types.specs.declared.answers.Part.{Part}
use Rattle.sync_types.specs.declared.answers.Part.TheVariants as part
use Rattle.construction.specs.Plans.{Plan, plan_nodes, plan_faults}
use Rattle.plan_numbers.specs.Premises.{IsAccepted}
use Rattle.plan_reader.specs.PlanPart.{plan_of}
use Rattle.plan_reader.proofs.AcceptedPlans.{plan_accepted}
use Rattle.state_codec.specs.Shapes.{Shape, IsShape}
use Rattle.state_codec.proofs.Plans.{shape_of_accepted}
use Rattle.adversary_script.specs.Scripts.{Script}
use Rattle.adversary_script.specs.ScriptPart.{script_of}
use Rattle.adversary_script.specs.ScriptLaws.{ReadIsWritable}
use Rattle.adversary_script.specs.Writable.{IsWritable}
use Rattle.slot_table.specs.SlotPart as slot_part
use Rattle.slot_table.specs.SlotTexts.{slots_text}
use Rattle.slot_table.proofs.FitLines.{lines_fit}
use Rattle.consensus_layer.specs.AgreePart as agree_part
use Rattle.consensus_layer.specs.AgreeTexts.{agree_text}
use Rattle.consensus_layer.proofs.FitInputs.{inputs_fit}
use Rattle.firing.specs.declared.requests.Request.{Request}
use Rattle.firing.specs.FirePart as fire_part
use Rattle.firing.specs.RequestTexts.{requests_text, HasRounds}
use Rattle.firing.proofs.FitRequests.{requests_fit, requests_have_rounds}
use Rattle.replicated_log.specs.LogContent.{LogContent}
use Rattle.replicated_log.specs.LogPart as log_part
use Rattle.replicated_log.specs.LogTexts.{log_text}
use Rattle.replicated_log.proofs.FitLogs.{log_fits, logs_are_short}
use Rattle.outcomes.specs.Layered.{Layered, layered_with, behind_part, behind_plan, layered_of}
use Rattle.outcomes.specs.Layered.{slots_shape, slotted_of, agree_shape, agreed_of, fire_shape}
use Rattle.outcomes.specs.Layered.{firing_of, log_shape, logging_of}
use Rattle.outcomes.proofs.LayeredRead.{further_sound}
use Rattle.promises.specs.ScriptInputs.{ScriptInputsAreRead}
use Rattle.promises.specs.OnlyTexts.{IsReadAgain, OnlyTextsAreRead}

-- Of a part that fits its plan when it is read: what holds of each plan, part and script that a
-- text can say, holds of what is read.
module _ (writable : ReadIsWritable) {Content : Type 0} (name : Part)
    (part_of : Plan → (number : ℕ) → List (List ℕ) → Result (Found Content) (At Rule))
    (shape_for : Plan → Content → Shape) (Fits : Plan → Content → Type 0)
    (fit : (plan : Plan) (number : ℕ) (lines : List (List ℕ))
    → IfOk (part_of plan number lines) (λ found. Fits plan found.value))
    (sound : (plan : Plan) (said : Content) → IsAccepted plan → Fits plan said
    → IsShape (shape_for plan said)) (Holds : Layered Content → Type 0)
    (holds : (plan : Plan) → IsAccepted plan → (said : Content) → Fits plan said
    → (script : Script) → IsWritable plan (shape_for plan said) script
    → Holds (record { plan = plan; said = said; script = script })) where
  by_script : (plan : Plan) → IsAccepted plan → (said : Content) → Fits plan said
      → (r : Result Script (At Rule)) → IfOk r (IsWritable plan (shape_for plan said))
      → IfOk (layered_with name part_of shape_for plan said r) Holds
  by_script plan accepted said fits (Err at) is = tt
  by_script plan accepted said fits (Ok script) is = holds plan accepted said fits script is

  by_part : (plan : Plan) → IsAccepted plan → (number : ℕ) (r : Result (Found Content) (At Rule))
      → IfOk r (λ found. Fits plan found.value)
      → IfOk (behind_part name part_of shape_for plan number r) Holds
  by_part plan accepted number (Err at) fits = tt
  by_part plan accepted number (Ok found) fits =
      let shape = shape_for plan found.value in
      by_script plan accepted found.value fits
      (script_of plan shape (number + found.taken) found.behind)
      (writable (plan_nodes plan) (plan_faults plan) shape
      (sound plan found.value accepted fits) (number + found.taken) found.behind)

  by_plan : (r : Result (Found Plan) (At Premise)) → IfOk r (λ found. IsAccepted found.value)
      → IfOk (behind_plan name part_of shape_for r) Holds
  by_plan (Err at) accepted = tt
  by_plan (Ok found) accepted =
      by_part found.value accepted (1 + found.taken)
      (part_of found.value (1 + found.taken) found.behind)
      (fit found.value (1 + found.taken) found.behind)

  of_input : (input : List ℕ) → IfOk (layered_of name part_of shape_for input) Holds
  of_input input = by_plan (plan_of input) (plan_accepted input)

-- two things that hold of what was read
both : {X E : Type 0} (A B : X → Type 0) (r : Result X E) → IfOk r A → IfOk r B
    → IfOk r (λ x. A x × B x)
both A B (Err e) a b = tt
both A B (Ok x) a b = (a, b)

abbrev AreSaid : Plan → List Request → Type 0
AreSaid plan requests = fire_part.AreFor plan requests × All HasRounds requests

abbrev IsSaid : Plan → LogContent → Type 0
IsSaid plan said = log_part.IsLogForPlan plan said × All (λ own. length own ≤ 16) said.commands

pub only_texts : ScriptInputsAreRead → ReadIsWritable → OnlyTextsAreRead
only_texts read writable = record {
  slots =
      of_input writable part.Slots slot_part.part_of slots_shape slot_part.AreFor lines_fit
      (λ plan table accepted are. shape_of_accepted plan accepted)
      (IsReadAgain slotted_of slots_text) read.slots;
  consensus =
      of_input writable part.Agree agree_part.part_of agree_shape agree_part.IsAgreeForPlan
      inputs_fit
      (λ plan said accepted is. further_sound plan said.values 1 accepted is.two is.few)
      (IsReadAgain agreed_of agree_text) read.consensus;
  fire =
      of_input writable part.Fire fire_part.part_of fire_shape AreSaid
      (λ plan number lines.
      both (λ found. fire_part.AreFor plan found.value) (λ found. All HasRounds found.value)
      (fire_part.part_of plan number lines) (requests_fit plan number lines)
      (requests_have_rounds plan number lines))
      (λ plan requests accepted are.
      further_sound plan 2 1 accepted (omega arith) (omega arith))
      (IsReadAgain firing_of requests_text)
      (λ plan accepted requests are. read.fire plan accepted requests are.0 are.1);
  log =
      of_input writable part.Log log_part.part_of log_shape IsSaid
      (λ plan number lines.
      both (λ found. log_part.IsLogForPlan plan found.value)
      (λ found. All (λ own. length own ≤ 16) found.value.commands)
      (log_part.part_of plan number lines) (log_fits plan number lines)
      (logs_are_short plan number lines))
      (λ plan said accepted is. further_sound plan said.values 2 accepted is.0.two is.0.few)
      (IsReadAgain logging_of log_text)
      (λ plan accepted said is. read.log plan accepted said is.0 is.1);
}
