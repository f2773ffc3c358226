-- Inputs with a script, as texts of their parts, are read as what these say.
use Rattle.std.proofs.Common.{◌≡◌, ℕ, ◌+◌, ◌<◌, ◌≤◌, List, ◌++◌, length, Result, Ok, ap, ◌∙◌, arith}
use Rattle.std.specs.Prelude.{IfOk}
use Rattle.texts.specs.Lines.{lines_of}
use Rattle.texts.specs.Parts.{At, Found}
use Rattle.sync_types.specs.declared.answers.Part.{Part}
use Rattle.sync_types.specs.declared.answers.Part.TheVariants as part
use Rattle.sync_types.specs.declared.answers.Rule.{Rule}
use Rattle.state_codec.specs.Shapes.{Shape, IsShape, Fields, fields_at, bits_in}
use Rattle.state_codec.proofs.Lows.{depth_at, fields_limited}
use Rattle.adversary_script.specs.Scripts.{Script}
use Rattle.adversary_script.specs.ScriptTexts.{script_text}
use Rattle.adversary_script.specs.Writable.{FitsLines, IsWritableFor}
use Rattle.adversary_script.specs.ScriptLaws.{ScriptTextIsWhole, ReadIsWritable}
use Rattle.node_words.proofs.StateDigits.{most_bits}
use Rattle.slot_table.specs.SlotTexts.{slots_text, TableTextIsRead}
use Rattle.slot_table.proofs.FitLines.{tables_fit}
use Rattle.consensus_layer.specs.AgreeTexts.{agree_text, AgreeTextIsReadOver}
use Rattle.consensus_layer.proofs.FitInputs.{inputs_fit_over}
use Rattle.firing.specs.RequestTexts.{requests_text, RequestTextIsReadOver}
use Rattle.firing.proofs.FitRequests.{requests_are_said}
use Rattle.replicated_log.specs.LogTexts.{log_text, LogTextIsReadOver}
use Rattle.replicated_log.proofs.FitLogs.{log_is_said}
use Rattle.halving_plan.specs.Plans.{HalvingNumbers, IsAccepted}
use Rattle.halving_texts.specs.HalvingPart.{halving_of}
use Rattle.halving_texts.specs.HalvingTexts.{HalvingTextIsRead}
use Rattle.halving_texts.proofs.Rewritten.{read_is_accepted}
use Rattle.halving_texts.specs.HalvingShapes.{shape_of}
use Rattle.halving_texts.proofs.PlanBits.{some_bits_at, few_registers}
use Rattle.halving_texts.proofs.Shaped as shaped
use Rattle.halving_runs.specs.declared.errors.RunRefusal.{RunRefusal}
use Rattle.halving_runs.specs.RunInputs.{in_plan, in_part, in_script, then_read, script_behind}
use Rattle.halving_runs.specs.RunInputs.{Scripted, with_script, scripted_behind, scripted_of}
use Rattle.halving_runs.specs.RunInputs.{Layered, with_said, behind_part, layered_behind}
use Rattle.halving_runs.specs.RunInputs.{layered_of}
use Rattle.halving_runs.specs.LayerInputs.{slots_part, slots_shape, slotted_of}
use Rattle.halving_runs.specs.LayerInputs.{numbers_of, agree_part, agree_shape, agreed_of}
use Rattle.halving_runs.specs.LayerInputs.{fire_part, fire_shape, firing_of}
use Rattle.halving_runs.specs.LayerInputs.{log_part, log_shape, logging_of}
use Rattle.halving_runs.specs.LayerShapes.{shape_with}
use Rattle.halving_runs.specs.LayerReadings.{FitsAgreed}
use Rattle.halving_runs.specs.ScriptInputs.{scripted_text, layered_text, LayeredAreRead}
use Rattle.halving_runs.specs.ScriptInputs.{FitsTable, RequestsAreWritable, LogIsWritable}
use Rattle.halving_runs.specs.ScriptInputs.{ScriptInputsAreRead}
use Rattle.halving_runs.proofs.ReadParts.{then_holds}
use Rattle.halving_runs.proofs.ReadLayers.{are_numbers}
use Rattle.halving_runs.proofs.LayerShaped as shaped_with

-- A shape whose states have digits that fit a line: it has few registers, and each node's state
-- takes some bits.
record HasText (nodes : ℕ) (shape : Shape) : Type 0 where
  sound : IsShape shape
  few : shape.depth ≤ 342
  some : (v : ℕ) → v < nodes → 0 < bits_in (fields_at shape v)

fits : (nodes : ℕ) (shape : Shape) → HasText nodes shape → FitsLines nodes shape
fits nodes shape has v lt =
    let own : Fields = fields_at shape v in
    let some = has.some v lt in
    let few = has.few in
    let most = most_bits own (fields_limited shape v has.sound) in
    let bits : bits_in own ≤ 14405 = omega (arith, most, depth_at shape v, few) in
    (omega (arith, some), omega (arith, bits))

-- the plan's own
own_has : (plan : HalvingNumbers) → IsAccepted plan → HasText plan.nodes (shape_of plan)
own_has plan accepted = record {
  sound = shaped.is_shape plan accepted;
  few = let few = few_registers plan accepted in omega (arith, few);
  some = some_bits_at plan accepted;
}

-- that with registers of a layer after the plan's
more_has : (plan : HalvingNumbers) → IsAccepted plan → (values count : ℕ) → 2 ≤ values
    → values ≤ 65536 → count ≤ 2 → HasText plan.nodes (shape_with plan values count)
more_has plan accepted values count least most few = record {
  sound = shaped_with.is_shape plan accepted values count least most;
  few = shaped_with.few_more plan accepted values count least most few;
  some = shaped_with.some_bits plan accepted values count least most;
}

module _ (fronts : HalvingTextIsRead) (whole : ScriptTextIsWhole) where
  -- a script, and what is made of it
  script_is : {W : Type 0} (plan : HalvingNumbers) → IsAccepted plan → (shape : Shape)
      → HasText plan.nodes shape → (make : Script → Result W RunRefusal) (number : ℕ)
      (script : Script) → IsWritableFor plan.nodes plan.faults shape script
      → then_read in_script make
      (script_behind plan shape number (lines_of (script_text script))) ≡ make script
  script_is plan accepted shape has make number script is =
      ap (then_read in_script make)
      (whole plan.nodes plan.faults accepted.most_nodes shape has.sound
      (fits plan.nodes shape has) script is number)

  run_read : (plan : HalvingNumbers) → IsAccepted plan → (script : Script)
      → IsWritableFor plan.nodes plan.faults (shape_of plan) script
      → scripted_of (scripted_text plan script) ≡ Ok (record { plan = plan; script = script })
  run_read plan accepted script is =
      ap (then_read in_plan scripted_behind) (fronts plan (script_text script) accepted)
      ∙ script_is plan accepted (shape_of plan) (own_has plan accepted) (with_script plan) 4 script
      is

  module _ (writable : ReadIsWritable) where
    abbrev RunIsRead : Scripted → Type 0
    RunIsRead read = scripted_of (scripted_text read.plan read.script) ≡ Ok read

    run_again : (input : List ℕ) → IfOk (scripted_of input) RunIsRead
    run_again input =
        then_holds in_plan scripted_behind (λ found. IsAccepted found.value) RunIsRead
        (halving_of input) (read_is_accepted input)
        (λ found accepted.
        let plan : HalvingNumbers = found.value in
        then_holds in_script (with_script plan)
        (IsWritableFor plan.nodes plan.faults (shape_of plan)) RunIsRead
        (script_behind plan (shape_of plan) (1 + found.taken) found.behind)
        (writable plan.nodes plan.faults (shape_of plan) (shaped.is_shape plan accepted)
        (1 + found.taken) found.behind)
        (run_read plan accepted))

    -- a part of that name, whose text has so many lines and is read as what it says
    module _ {Content : Type 0} (name : Part)
        (part_of : HalvingNumbers → (number : ℕ) → List (List ℕ) → Result (Found Content) (At Rule))
        (shape_for : HalvingNumbers → Content → Shape) (Fits : HalvingNumbers → Content → Type 0)
        (text : Content → List ℕ) (size : Content → ℕ)
        (part_read : (plan : HalvingNumbers) → IsAccepted plan → (said : Content) → Fits plan said
        → (number : ℕ) (rest : List ℕ) → part_of plan number (lines_of (text said ++ rest))
        ≡ Ok (record { value = said; taken = size said; behind = lines_of rest }))
        (fit : (plan : HalvingNumbers) → IsAccepted plan → (number : ℕ) (lines : List (List ℕ))
        → IfOk (part_of plan number lines) (λ found. Fits plan found.value))
        (has : (plan : HalvingNumbers) → IsAccepted plan → (said : Content) → Fits plan said
        → HasText plan.nodes (shape_for plan said)) where
      text_read : (plan : HalvingNumbers) → IsAccepted plan → (said : Content) → Fits plan said
          → (script : Script) → IsWritableFor plan.nodes plan.faults (shape_for plan said) script
          → layered_of name part_of shape_for (layered_text text plan said script)
          ≡ Ok (record { plan = plan; said = said; script = script })
      text_read plan accepted said for script is =
          ap (then_read in_plan (layered_behind name part_of shape_for))
          (fronts plan (text said ++ script_text script) accepted)
          ∙ ap (then_read (in_part name) (behind_part name part_of shape_for plan 4))
          (part_read plan accepted said for 4 (script_text script))
          ∙ script_is plan accepted (shape_for plan said) (has plan accepted said for)
          (with_said plan said) (4 + size said) script is

      abbrev IsReadAgain : Layered Content → Type 0
      IsReadAgain read =
          layered_of name part_of shape_for (layered_text text read.plan read.said read.script)
          ≡ Ok read

      part_again : (plan : HalvingNumbers) → IsAccepted plan → (number : ℕ) (found : Found Content)
          → Fits plan found.value
          → IfOk (behind_part name part_of shape_for plan number found) IsReadAgain
      part_again plan accepted number found for =
          let shape = shape_for plan found.value in
          then_holds in_script (with_said plan found.value)
          (IsWritableFor plan.nodes plan.faults shape) IsReadAgain
          (script_behind plan shape (number + found.taken) found.behind)
          (writable plan.nodes plan.faults shape (has plan accepted found.value for).sound
          (number + found.taken) found.behind)
          (text_read plan accepted found.value for)

      read_again : (input : List ℕ)
          → IfOk (layered_of name part_of shape_for input) IsReadAgain
      read_again input =
          then_holds in_plan (layered_behind name part_of shape_for)
          (λ found. IsAccepted found.value) IsReadAgain (halving_of input) (read_is_accepted input)
          (λ found accepted.
          let plan : HalvingNumbers = found.value in
          let number : ℕ = 1 + found.taken in
          then_holds (in_part name) (behind_part name part_of shape_for plan number)
          (λ f. Fits plan f.value) IsReadAgain (part_of plan number found.behind)
          (fit plan accepted number found.behind) (part_again plan accepted number))

      layered_are_read : LayeredAreRead (layered_of name part_of shape_for) text shape_for Fits
      layered_are_read = record { read = text_read; others = read_again }

    slots_are_read : TableTextIsRead
        → LayeredAreRead slotted_of slots_text slots_shape FitsTable
    slots_are_read tables =
        layered_are_read part.Slots slots_part slots_shape FitsTable slots_text
        (λ table. length table + 2)
        (λ plan accepted table for.
        tables plan.nodes plan.modulus (omega (arith, accepted.most_nodes)) accepted.most_modulus
        table for)
        (λ plan accepted. tables_fit plan.nodes plan.modulus)
        (λ plan accepted table for. own_has plan accepted)

    agreed_are_read : AgreeTextIsReadOver
        → LayeredAreRead agreed_of agree_text agree_shape FitsAgreed
    agreed_are_read texts =
        layered_are_read part.Agree agree_part agree_shape FitsAgreed agree_text (λ said. 4)
        (λ plan accepted said for. texts (numbers_of plan) (are_numbers plan accepted) said for)
        (λ plan accepted. inputs_fit_over (numbers_of plan))
        (λ plan accepted said for.
        more_has plan accepted said.values 1 for.two for.few (omega arith))

    fired_are_read : RequestTextIsReadOver
        → LayeredAreRead firing_of requests_text fire_shape RequestsAreWritable
    fired_are_read texts =
        layered_are_read part.Fire fire_part fire_shape RequestsAreWritable requests_text
        (λ requests. length requests + 2)
        (λ plan accepted requests can.
        texts (numbers_of plan) (are_numbers plan accepted) requests can.0 can.1)
        (λ plan accepted. requests_are_said (numbers_of plan))
        (λ plan accepted requests can.
        more_has plan accepted 2 1 (omega arith) (omega arith) (omega arith))

    logged_are_read : LogTextIsReadOver → LayeredAreRead logging_of log_text log_shape LogIsWritable
    logged_are_read texts =
        layered_are_read part.Log log_part log_shape LogIsWritable log_text
        (λ said. 3 + (length said.commands + 1))
        (λ plan accepted said can.
        texts (numbers_of plan) (are_numbers plan accepted) said can.0 can.1)
        (λ plan accepted. log_is_said (numbers_of plan))
        (λ plan accepted said can.
        more_has plan accepted said.values 2 can.0.two can.0.few (omega arith))

    pub script_inputs_read : TableTextIsRead → AgreeTextIsReadOver → RequestTextIsReadOver
        → LogTextIsReadOver → ScriptInputsAreRead
    script_inputs_read tables inputs requests logs = record {
      run = run_read;
      others = run_again;
      slots = slots_are_read tables;
      consensus = agreed_are_read inputs;
      fire = fired_are_read requests;
      log = logged_are_read logs;
    }
