-- Skipped lines change nothing of what an input is read as.
use Rattle.std.proofs.Common.{◌≡◌, ℕ, zero, suc, ◌+◌, ◌≤◌, Bool, true, false, eqb, List, [], ◌∷◌}
use Rattle.std.proofs.Common.{length, take, drop, Option, Some, None, Result, Ok, Err, refl, sym}
use Rattle.std.proofs.Common.{ap, ◌∙◌}
use Rattle.std.proofs.Common.{append_assoc, arith}
use Rattle.std.specs.Prelude.{not, if◌then◌else◌}
use Rattle.std.specs.List.{onto_first, AllByRecursion}
use Rattle.std.proofs.lemmas.Bool.{and_from}
use Rattle.std.proofs.lemmas.List.{length-take, take-append-drop}
use Rattle.texts.specs.Lines.{lines_of, is_one_line}
use Rattle.texts.specs.Words.{text_of}
use Rattle.texts.specs.Parts.{Next, Found, At, is_skipped, with_skips, part_from}
use Rattle.texts.proofs.Texts.{IsOneLine}
use Rattle.texts.proofs.LineByLine.{line_first}
use Rattle.sync_types.specs.declared.answers.Premise.{Premise}
use Rattle.sync_types.specs.declared.answers.Premise.TheVariants as premise
use Rattle.sync_types.specs.declared.answers.Rule.{Rule}
use Rattle.sync_types.specs.declared.answers.Rule.TheVariants as rule
use Rattle.sync_types.specs.declared.answers.Part.{Part}
use Rattle.sync_types.specs.declared.answers.Part.TheVariants as part
use Rattle.construction.specs.Plans.{Plan, plan_nodes, plan_faults}
use Rattle.plan_reader.specs.Skipped.{first_unskipped}
use Rattle.plan_reader.specs.PlanPart as plan_part
use Rattle.plan_reader.specs.declared.stages.PlanStage.TheVariants as plan_stage
use Rattle.plan_finder.specs.FindPart as find_part
use Rattle.plan_finder.specs.declared.wants.Want.{Want}
use Rattle.plan_finder.specs.declared.want_lines.FindStage.TheVariants as find_stage
use Rattle.state_codec.specs.Shapes.{Shape, shape_of}
use Rattle.adversary_script.specs.Scripts.{Script}
use Rattle.adversary_script.specs.ScriptPart as script_part
use Rattle.adversary_script.specs.ScriptPart.{script_for}
use Rattle.slot_table.specs.SlotPart as slot_part
use Rattle.consensus_layer.specs.AgreePart as agree_part
use Rattle.firing.specs.FirePart as fire_part
use Rattle.replicated_log.specs.LogPart as log_part
use Rattle.node_words.proofs.SkippedLines.{behind, then_next}
use Rattle.node_words.proofs.Skips.{header_skips}
use Rattle.outcomes.specs.declared.refusals.Refusal.{Refusal}
use Rattle.outcomes.specs.Inputs.{in_plan, in_part, or_refusal, Scripted, with_script}
use Rattle.outcomes.specs.Inputs as inputs
use Rattle.outcomes.specs.PlanWords.{plan_words}
use Rattle.outcomes.specs.Layered.{Layered, slots_shape, agree_shape, fire_shape, log_shape}
use Rattle.outcomes.specs.Layered as layered
use Rattle.promises.specs.Skips.{put_in, with_line, moved_in, SkipsAreUnseen, SkippedLinesAreUnseen}
use Rattle.promises.proofs.SkippedLines.{Reads, Moves, IsBlind, blind_as, by_first, unless_more}
use Rattle.promises.proofs.SkippedLines.{end_is_blind, part_is_blind}

-- ---- the lines of a text

abbrev AreLines : List (List ℕ) → Type 0
AreLines lines = AllByRecursion IsOneLine lines

onto_one : (b : ℕ) (lines : List (List ℕ)) → not (eqb b 10) ≡ true → AreLines lines
    → AreLines (onto_first b lines)
onto_one b [] other are = (and_from _ _ other refl, tt)
onto_one b (line ∷ lines) other are = (and_from _ _ other are.0, are.1)

lines_by : (newline : Bool) (b : ℕ) (lines : List (List ℕ)) → eqb b 10 ≡ newline → AreLines lines
    → AreLines (if newline then [] ∷ lines else onto_first b lines)
lines_by true b lines is are = (refl, are)
lines_by false b lines is are = onto_one b lines (ap not is) are

are_lines : (text : List ℕ) → AreLines (lines_of text)
are_lines [] = tt
are_lines (b ∷ bs) = lines_by (eqb b 10) b (lines_of bs) refl (are_lines bs)

put_are_lines : (n : ℕ) (line : List ℕ) (lines : List (List ℕ)) → IsOneLine line → AreLines lines
    → AreLines (put_in n line lines)
put_are_lines zero line lines one are = (one, are)
put_are_lines (suc n) line [] one are = (one, are)
put_are_lines (suc n) line (first ∷ lines) one are =
    (are.0, put_are_lines n line lines one are.1)

lines_again : (lines : List (List ℕ)) → AreLines lines → lines_of (text_of lines) ≡ lines
lines_again [] are = refl
lines_again (line ∷ lines) are =
    ap lines_of (append_assoc line (10 ∷ []) (text_of lines))
    ∙ (line_first line (text_of lines) are.0 ∙ ap (λ rest. line ∷ rest) (lines_again lines are.1))

lines_with : (n : ℕ) (line input : List ℕ) → is_one_line line ≡ true
    → lines_of (with_line n line input) ≡ put_in n line (lines_of input)
lines_with n line input one =
    lines_again (put_in n line (lines_of input))
    (put_are_lines n line (lines_of input) one (are_lines input))

-- what is blind from the first line on sees nothing of them
unseen : {X : Type 0} (read : Reads X)
    → ((line : List ℕ) → is_skipped line ≡ true → length line ≤ 4096 → IsBlind line read)
    → SkipsAreUnseen (λ input. read 1 (lines_of input))
unseen read blind input n le line skipped short one =
    let lines : List (List ℕ) = lines_of input in
    ap (read 1) (lines_with n line input one)
    ∙ ((blind line skipped short).among (take n lines) (drop n lines) n 1
    (omega (arith, length-take n lines, le))
    ∙ ap (λ ls. moved_in n (read 1 ls)) (take-append-drop n lines))

-- what reads as another that sees nothing of skipped lines is so
unseen_as : {X : Type 0} (read other : List ℕ → Result X Refusal)
    → ((input : List ℕ) → read input ≡ other input) → SkipsAreUnseen other → SkipsAreUnseen read
unseen_as read other same is input n le line skipped short one =
    same (with_line n line input)
    ∙ (is input n le line skipped short one ∙ ap (moved_in n) (sym (same input)))

-- ---- a refusal names its line

abbrev of_plan : {X : Type 0} → At Premise → Result X Refusal
of_plan at = Err (in_plan at)

abbrev of_part : {X : Type 0} → Part → At Rule → Result X Refusal
of_part name at = Err (in_part name at)

plan_moves : {X : Type 0} → Moves (of_plan {X = X})
plan_moves k number rule = refl

part_moves : {X : Type 0} (name : Part) → Moves (of_part {X = X} name)
part_moves name k number rule = refl

-- ---- wants

abbrev read_wants : (number : ℕ) → List (List ℕ) → Result Want Refusal
read_wants =
    then_next (of_part part.Find) (unless_more (of_part part.Find) rule.Form)
    (with_skips find_part.find_step rule.Form) rule.Form find_stage.Unread

wants_by : (first : Option ℕ) (want : Want)
    → or_refusal (in_part part.Find) (find_part.unless_followed first want)
    ≡ by_first (of_part part.Find) rule.Form want first
wants_by None want = refl
wants_by (Some number) want = refl

wants_are : (r : Result (Found Want) (At Rule))
    → or_refusal (in_part part.Find) (find_part.alone r)
    ≡ behind (of_part part.Find) (unless_more (of_part part.Find) rule.Form) 1 r
wants_are (Err at) = refl
wants_are (Ok found) = wants_by (first_unskipped (1 + found.taken) found.behind) found.value

wants_unseen : SkipsAreUnseen inputs.wants_of
wants_unseen =
    unseen_as inputs.wants_of (λ input. read_wants 1 (lines_of input))
    (λ input. wants_are (part_from (with_skips find_part.find_step rule.Form) rule.Form
    find_stage.Unread 0 1 (lines_of input)))
    (unseen read_wants (λ line skipped short.
    part_is_blind line skipped short find_part.find_step rule.Form (of_part part.Find)
    (part_moves part.Find) (unless_more (of_part part.Find) rule.Form)
    (λ want. end_is_blind line skipped short (of_part part.Find) (part_moves part.Find)
    rule.Form want)
    find_stage.Unread))

-- ---- a plan, and what is read after it

module _ {X : Type 0} (next : Plan → Reads X) where
  abbrev read_plan : Reads X
  read_plan = then_next of_plan next (with_skips plan_part.plan_step premise.Form) premise.Form
      plan_stage.Unread

  behind_plan_unseen : ((line : List ℕ) → is_skipped line ≡ true → length line ≤ 4096
      → (plan : Plan) → IsBlind line (next plan))
      → SkipsAreUnseen (λ input. read_plan 1 (lines_of input))
  behind_plan_unseen blind =
      unseen read_plan (λ line skipped short.
      part_is_blind line skipped short plan_part.plan_step premise.Form of_plan plan_moves
      next (blind line skipped short) plan_stage.Unread)

-- alone
plan_by : (first : Option ℕ) (plan : Plan)
    → or_refusal in_plan (plan_part.unless_followed first plan)
    ≡ by_first of_plan premise.Form plan first
plan_by None plan = refl
plan_by (Some number) plan = refl

plan_is : (r : Result (Found Plan) (At Premise))
    → or_refusal in_plan (plan_part.alone r)
    ≡ behind of_plan (unless_more of_plan premise.Form) 1 r
plan_is (Err at) = refl
plan_is (Ok found) = plan_by (first_unskipped (1 + found.taken) found.behind) found.value

plans_unseen : SkipsAreUnseen inputs.plan_alone
plans_unseen =
    unseen_as inputs.plan_alone
    (λ input. read_plan (unless_more of_plan premise.Form) 1 (lines_of input))
    (λ input. plan_is (plan_part.plan_of input))
    (behind_plan_unseen (unless_more of_plan premise.Form) (λ line skipped short plan.
    end_is_blind line skipped short of_plan plan_moves premise.Form plan))

-- ---- a script, to the end of the input

module _ {X : Type 0} (plan : Plan) (shape : Shape) (wrap : Script → X) where
  abbrev wrapped : Result Script (At Rule) → Result X Refusal
  wrapped (Err at) = Err (in_part part.Script at)
  wrapped (Ok script) = Ok (wrap script)

  abbrev script_end : Script → Reads X
  script_end script = unless_more (of_part part.Script) rule.Form (wrap script)

  script_by : (first : Option ℕ) (script : Script)
      → wrapped (script_part.unless_followed first script)
      ≡ by_first (of_part part.Script) rule.Form (wrap script) first
  script_by None script = refl
  script_by (Some number) script = refl

  script_is : (number : ℕ) (r : Result (Found Script) (At Rule))
      → wrapped (script_part.alone number r) ≡ behind (of_part part.Script) script_end number r
  script_is number (Err at) = refl
  script_is number (Ok found) =
      script_by (first_unskipped (number + found.taken) found.behind) found.value

  abbrev none_read : script_part.ScriptSoFar
  none_read = script_part.nothing_read (plan_nodes plan) (plan_faults plan) shape

  abbrev read_script : Reads X
  read_script number lines = wrapped (script_part.script_of plan shape number lines)

  script_is_blind : (line : List ℕ) → is_skipped line ≡ true → length line ≤ 4096
      → IsBlind line read_script
  unfolding script_for
  script_is_blind line skipped short =
      blind_as line read_script
      (then_next (of_part part.Script) script_end (with_skips script_part.script_step rule.Form)
      rule.Form none_read)
      (λ number lines. script_is number (script_part.part_of plan shape number lines))
      (part_is_blind line skipped short script_part.script_step rule.Form (of_part part.Script)
      (part_moves part.Script) script_end
      (λ script. end_is_blind line skipped short (of_part part.Script)
      (part_moves part.Script) rule.Form (wrap script))
      none_read)

-- after its plan alone
abbrev script_behind : Plan → Reads Scripted
script_behind plan =
    read_script plan (shape_of plan) (λ script. record { plan = plan; script = script })

scripted_by : (plan : Plan) (r : Result Script (At Rule))
    → with_script plan r
    ≡ wrapped plan (shape_of plan) (λ script. record { plan = plan; script = script }) r
scripted_by plan (Err at) = refl
scripted_by plan (Ok script) = refl

scripted_is : (r : Result (Found Plan) (At Premise))
    → inputs.behind_plan r ≡ behind of_plan script_behind 1 r
scripted_is (Err at) = refl
scripted_is (Ok found) =
    scripted_by found.value (script_part.script_of found.value (shape_of found.value)
    (1 + found.taken) found.behind)

scripts_unseen : SkipsAreUnseen inputs.scripted_of
scripts_unseen =
    unseen_as inputs.scripted_of (λ input. read_plan script_behind 1 (lines_of input))
    (λ input. scripted_is (plan_part.plan_of input))
    (behind_plan_unseen script_behind (λ line skipped short plan.
    script_is_blind plan (shape_of plan) (λ script. record { plan = plan; script = script })
    line skipped short))

-- ---- a part between the plan and the script

module _ {S Content : Type 0} (name : Part) (step : S → List ℕ → Next S Content Rule)
    (begin : Plan → S) (shape_for : Plan → Content → Shape) where
  abbrev part_of : Plan → (number : ℕ) → List (List ℕ) → Result (Found Content) (At Rule)
  part_of plan number lines =
      part_from (with_skips step rule.Form) rule.Form (begin plan) 0 number lines

  abbrev with_said : Plan → Content → Script → Layered Content
  with_said plan said script = record { plan = plan; said = said; script = script }

  abbrev script_after_part : Plan → Content → Reads (Layered Content)
  script_after_part plan said = read_script plan (shape_for plan said) (with_said plan said)

  abbrev part_for : Plan → Reads (Layered Content)
  part_for plan =
      then_next (of_part name) (script_after_part plan) (with_skips step rule.Form) rule.Form
      (begin plan)

  said_by : (plan : Plan) (said : Content) (r : Result Script (At Rule))
      → layered.layered_with name part_of shape_for plan said r
      ≡ wrapped plan (shape_for plan said) (with_said plan said) r
  said_by plan said (Err at) = refl
  said_by plan said (Ok script) = refl

  part_is : (plan : Plan) (number : ℕ) (r : Result (Found Content) (At Rule))
      → layered.behind_part name part_of shape_for plan number r
      ≡ behind (of_part name) (script_after_part plan) number r
  part_is plan number (Err at) = refl
  part_is plan number (Ok found) =
      said_by plan found.value (script_part.script_of plan (shape_for plan found.value)
      (number + found.taken) found.behind)

  layered_is : (r : Result (Found Plan) (At Premise))
      → layered.behind_plan name part_of shape_for r ≡ behind of_plan part_for 1 r
  layered_is (Err at) = refl
  layered_is (Ok found) =
      part_is found.value (1 + found.taken)
      (part_of found.value (1 + found.taken) found.behind)

  layered_unseen : SkipsAreUnseen (layered.layered_of name part_of shape_for)
  layered_unseen =
      unseen_as (layered.layered_of name part_of shape_for)
      (λ input. read_plan part_for 1 (lines_of input))
      (λ input. layered_is (plan_part.plan_of input))
      (behind_plan_unseen part_for (λ line skipped short plan.
      part_is_blind line skipped short step rule.Form (of_part name) (part_moves name)
      (script_after_part plan)
      (λ said. script_is_blind plan (shape_for plan said) (with_said plan said) line skipped
      short)
      (begin plan)))

pub skipped_lines_are_unseen : SkippedLinesAreUnseen
skipped_lines_are_unseen = record {
  plans = plans_unseen;
  wants = wants_unseen;
  scripts = scripts_unseen;
  slots = layered_unseen part.Slots slot_part.slots_step slot_part.nothing_read slots_shape;
  consensus = layered_unseen part.Agree agree_part.agree_step agree_part.nothing_read agree_shape;
  fire = layered_unseen part.Fire fire_part.fire_step fire_part.nothing_read fire_shape;
  log = layered_unseen part.Log log_part.log_step log_part.nothing_read log_shape;
  headers = header_skips plan_words;
}
