-- Inputs with a script, as texts of their parts, are read as what these say.
use Rattle.std.proofs.Common.{◌≡◌, ℕ, ◌+◌, ◌^◌, ◌≤◌, List, ◌++◌, length, replicate}
use Rattle.std.proofs.Common.{Result, Ok, Err, ap, ◌∙◌, arith}
use Rattle.std.specs.Prelude.{IfOk}
use Rattle.std.proofs.lemmas.List.{length-append, length-replicate}
use Rattle.std.proofs.lemmas.List.Elements.{All-append, All-replicate}
use Rattle.texts.specs.Lines.{lines_of}
use Rattle.texts.specs.Parts.{Found, At}
use Rattle.sync_types.specs.declared.answers.Premise.{Premise}
use Rattle.sync_types.specs.declared.answers.Rule.{Rule}
use Rattle.sync_types.specs.declared.answers.Part.{Part}
use Rattle.sync_types.specs.declared.answers.Part.TheVariants as part
use Rattle.construction.specs.Plans.{Plan, plan_nodes, plan_faults, plan_depth, plan_low}
use Rattle.construction.proofs.Ranges.{low_most}
use Rattle.plan_numbers.specs.Premises.{IsAccepted}
use Rattle.plan_numbers.proofs.Accepted.{accepted_sized, accepted_depth}
use Rattle.plan_reader.specs.PlanPart.{plan_of}
use Rattle.plan_reader.proofs.AcceptedPlans.{plan_accepted}
use Rattle.plan_reader.specs.PlanTexts.{plan_text, PlanTextIsRead}
use Rattle.state_codec.specs.Shapes.{Fields, Shape, IsShape, AreAll, all_over, moduli_of}
use Rattle.state_codec.specs.Shapes.{shape_of, shape_over, shape_with, bits_in}
use Rattle.state_codec.proofs.Lows.{fields_of_node}
use Rattle.state_codec.proofs.Plans.{length-moduli_of, all_of_accepted, over_accepted}
use Rattle.adversary_script.specs.Scripts.{Script}
use Rattle.adversary_script.specs.ScriptPart.{script_of}
use Rattle.adversary_script.specs.ScriptTexts.{script_text}
use Rattle.adversary_script.specs.Writable.{FitsLines, IsWritable}
use Rattle.adversary_script.specs.ScriptLaws.{ScriptTextIsWhole, ReadIsWritable}
use Rattle.node_words.proofs.PlanBits.{some_bits, few_bits}
use Rattle.slot_table.specs.SlotPart as slot_part
use Rattle.slot_table.specs.SlotTexts.{slots_text, SlotTextIsRead}
use Rattle.consensus_layer.specs.AgreePart as agree_part
use Rattle.consensus_layer.specs.AgreeTexts.{agree_text, AgreeTextIsRead}
use Rattle.firing.specs.FirePart as fire_part
use Rattle.firing.specs.RequestTexts.{requests_text, RequestTextIsRead}
use Rattle.replicated_log.specs.LogPart as log_part
use Rattle.replicated_log.specs.LogTexts.{log_text, LogTextIsRead}
use Rattle.outcomes.specs.Inputs.{Scripted, with_script, behind_plan, scripted_of}
use Rattle.outcomes.specs.Layered as layered
use Rattle.outcomes.specs.Layered.{slots_shape, agree_shape, fire_shape, log_shape}
use Rattle.promises.specs.ScriptInputs.{scripted_text, layered_text, ScriptInputsAreRead}

-- ---- the shapes of the states that scripts speak of

module _ (plan : Plan) (accepted : IsAccepted plan) (moduli : List ℕ)
    (full : AreAll (all_over plan moduli)) (deep : plan_depth plan ≤ length moduli)
    (few : length moduli ≤ 7) where
  fits_over : FitsLines (plan_nodes plan) (shape_over plan moduli)
  fits_over v lt =
      let all : Fields = all_over plan moduli in
      let low = plan_low plan v in
      let own = ap bits_in (fields_of_node plan moduli v lt) in
      let some = some_bits all full low (omega (arith, deep, low_most plan.levels v)) in
      let most = few_bits all full low in
      (omega (arith, own, some), omega (arith, own, most, few))

  is_over : IsShape (shape_over plan moduli)
  is_over = over_accepted plan moduli accepted full

module _ (plan : Plan) (accepted : IsAccepted plan) where
  few_nodes : plan_nodes plan ≤ 256
  few_nodes = (accepted_sized plan.base plan.levels accepted.levels).most

  five : length (moduli_of plan.levels) ≤ 5
  five = omega (
    arith,
    length-moduli_of plan.levels,
    accepted_depth plan.base plan.levels accepted.levels,
  )

  own_deep : plan_depth plan ≤ length (moduli_of plan.levels)
  own_deep = omega (arith, length-moduli_of plan.levels)

  own_is : IsShape (shape_of plan)
  own_is = is_over plan accepted (moduli_of plan.levels) (all_of_accepted plan accepted) own_deep
      (omega (arith, five))

  own_fits : FitsLines (plan_nodes plan) (shape_of plan)
  own_fits = fits_over plan accepted (moduli_of plan.levels) (all_of_accepted plan accepted)
      own_deep (omega (arith, five))

  -- with one or two further registers
  module _ (values count : ℕ) (two : 2 ≤ values) (most : values ≤ 65536) (few : count ≤ 2) where
    abbrev moduli : List ℕ
    moduli = moduli_of plan.levels ++ replicate count values

    long : length moduli ≡ length (moduli_of plan.levels) + count
    long = length-append (moduli_of plan.levels) (replicate count values)
        ∙ ap (λ n. length (moduli_of plan.levels) + n) (length-replicate count values)

    full : AreAll (all_over plan moduli)
    full =
        let all = all_of_accepted plan accepted in
        record {
          least = all.least;
          most = all.most;
          moduli =
              All-append (λ modulus. (2 ≤ modulus) × (modulus ≤ 2 ^ 40)) (moduli_of plan.levels)
              (replicate count values) all.moduli
              (All-replicate (λ modulus. (2 ≤ modulus) × (modulus ≤ 2 ^ 40)) count values
              (two, omega (arith, most)));
        }

    with_is : IsShape (shape_with plan values count)
    with_is = is_over plan accepted moduli full (omega (arith, long, own_deep))
        (omega (arith, long, five, few))

    with_fits : FitsLines (plan_nodes plan) (shape_with plan values count)
    with_fits = fits_over plan accepted moduli full (omega (arith, long, own_deep))
        (omega (arith, long, five, few))

-- ---- inputs

module _ (fronts : PlanTextIsRead) (whole : ScriptTextIsWhole) (plan : Plan)
    (accepted : IsAccepted plan) where
  front_read : (rest : List ℕ) → plan_of (plan_text plan.version plan ++ rest)
      ≡ Ok (record { value = plan; taken = plan_depth plan + 3; behind = lines_of rest })
  front_read rest = fronts plan plan.version rest accepted (omega arith) accepted.newest

  run_read : (script : Script) → IsWritable plan (shape_of plan) script
      → behind_plan (plan_of (scripted_text plan script))
      ≡ Ok (record { plan = plan; script = script })
  run_read script is =
      ap behind_plan (front_read (script_text script))
      ∙ ap (with_script plan) (whole (plan_nodes plan) (plan_faults plan) (few_nodes plan accepted)
      (shape_of plan) (own_is plan accepted) (own_fits plan accepted) script is
      (1 + (plan_depth plan + 3)))

  module _ {Content : Type 0} (name : Part)
      (part_of : Plan → (number : ℕ) → List (List ℕ) → Result (Found Content) (At Rule))
      (shape_for : Plan → Content → Shape) (said : Content) (text : List ℕ) (taken : ℕ)
      (read : (number : ℕ) (rest : List ℕ) → part_of plan number (lines_of (text ++ rest))
      ≡ Ok (record { value = said; taken = taken; behind = lines_of rest }))
      (is : IsShape (shape_for plan said))
      (fits : FitsLines (plan_nodes plan) (shape_for plan said)) where
    layered_read : (script : Script) → IsWritable plan (shape_for plan said) script
        → layered.layered_of name part_of shape_for (layered_text plan text script)
        ≡ Ok (record { plan = plan; said = said; script = script })
    layered_read script writable =
        let number = 1 + (plan_depth plan + 3) in
        ap (layered.behind_plan name part_of shape_for) (front_read (text ++ script_text script))
        ∙ ap (layered.behind_part name part_of shape_for plan number)
        (read number (script_text script))
        ∙ ap (layered.layered_with name part_of shape_for plan said)
        (whole (plan_nodes plan) (plan_faults plan) (few_nodes plan accepted) (shape_for plan said)
        is fits script writable (number + taken))

-- what any input is read as
module _ (fronts : PlanTextIsRead) (whole : ScriptTextIsWhole) (writable : ReadIsWritable) where
  abbrev IsReadAgain : Scripted → Type 0
  IsReadAgain read = scripted_of (scripted_text read.plan read.script) ≡ Ok read

  by_script : (plan : Plan) → IsAccepted plan → (r : Result Script (At Rule))
      → IfOk r (IsWritable plan (shape_of plan)) → IfOk (with_script plan r) IsReadAgain
  by_script plan accepted (Err at) is = tt
  by_script plan accepted (Ok script) is = run_read fronts whole plan accepted script is

  by_plan : (r : Result (Found Plan) (At Premise)) → IfOk r (λ found. IsAccepted found.value)
      → IfOk (behind_plan r) IsReadAgain
  by_plan (Err at) accepted = tt
  by_plan (Ok found) accepted =
      let plan = found.value in
      by_script plan accepted (script_of plan (shape_of plan) (1 + found.taken) found.behind)
      (writable (plan_nodes plan) (plan_faults plan) (shape_of plan) (own_is plan accepted)
      (1 + found.taken) found.behind)

  read_again : (input : List ℕ) → IfOk (scripted_of input) IsReadAgain
  read_again input = by_plan (plan_of input) (plan_accepted input)

pub script_inputs_read : PlanTextIsRead → ScriptTextIsWhole → ReadIsWritable → SlotTextIsRead
    → AgreeTextIsRead → RequestTextIsRead → LogTextIsRead → ScriptInputsAreRead
script_inputs_read fronts whole writable tables inputs requests logs = record {
  run = run_read fronts whole;
  others = read_again fronts whole writable;
  slots = λ plan accepted table are.
      layered_read fronts whole plan accepted part.Slots slot_part.part_of slots_shape table
      (slots_text table) (length table + 2) (tables plan accepted table are)
      (own_is plan accepted) (own_fits plan accepted);
  consensus = λ plan accepted said for.
      layered_read fronts whole plan accepted part.Agree agree_part.part_of agree_shape said
      (agree_text said) 4 (inputs plan accepted said for)
      (with_is plan accepted said.values 1 for.two for.few (omega arith))
      (with_fits plan accepted said.values 1 for.two for.few (omega arith));
  fire = λ plan accepted all are rounds.
      layered_read fronts whole plan accepted part.Fire fire_part.part_of fire_shape all
      (requests_text all) (length all + 2) (requests plan accepted all are rounds)
      (with_is plan accepted 2 1 (omega arith) (omega arith) (omega arith))
      (with_fits plan accepted 2 1 (omega arith) (omega arith) (omega arith));
  log = λ plan accepted said for short.
      layered_read fronts whole plan accepted part.Log log_part.part_of log_shape said
      (log_text said) (3 + (length said.commands + 1)) (logs plan accepted said for short)
      (with_is plan accepted said.values 2 for.two for.few (omega arith))
      (with_fits plan accepted said.values 2 for.two for.few (omega arith));
}
