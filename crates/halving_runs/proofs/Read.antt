-- What an input is read as, by what was read of it piece by piece.
use Rattle.std.proofs.Common.{◌≡◌, ℕ, ◌+◌, ◌-◌, List, length, take, drop, Result, Ok, Err, refl}
use Rattle.std.proofs.Common.{sym, ap, ◌∙◌, subst, arith}
use Rattle.std.proofs.lemmas.List.{take_all, length-drop}
use Rattle.texts.specs.Lines.{lines_of}
use Rattle.texts.specs.Parts.{At, Found}
use Rattle.sync_types.specs.declared.answers.Part.{Part}
use Rattle.sync_types.specs.declared.answers.Part.TheVariants as named
use Rattle.sync_types.specs.declared.answers.Rule.{Rule}
use Rattle.edge_io.specs.declared.taking.PartError.{PartError}
use Rattle.edge_io.specs.declared.taking.PartError.TheVariants as unread
use Rattle.edge_io.specs.Taking.{FailsAsDefined}
use Rattle.state_codec.specs.Shapes.{Shape, shape_nodes}
use Rattle.adversary_script.specs.Scripts.{Script}
use Rattle.adversary_script.specs.ScriptPart.{script_for}
use Rattle.halving_plan.specs.Plans.{HalvingNumbers}
use Rattle.halving_texts.specs.HalvingPart.{halving_of, found_in}
use Rattle.halving_texts.specs.HalvingShapes.{shape_of}
use Rattle.halving_runs.specs.declared.errors.RunRefusal.{RunRefusal}
use Rattle.halving_runs.specs.declared.errors.PlayError.{PlayError}
use Rattle.halving_runs.specs.declared.errors.PlayError.TheVariants as error
use Rattle.halving_runs.specs.RunInputs.{in_plan, in_part, in_script, then_read, script_behind}
use Rattle.halving_runs.specs.RunInputs.{with_script, scripted_behind, scripted_of, with_said}
use Rattle.halving_runs.specs.RunInputs.{Layered, behind_part, layered_behind, layered_of}
use Rattle.halving_runs.specs.Readings.{part_error, Refuses, IsReadBehind, FailsBehind}

-- all that is left of a text after its beginning
all_left : (text : List ℕ) (bytes : ℕ)
    → take (length text - bytes) (drop bytes text) ≡ drop bytes text
all_left text bytes =
    take_all (length text - bytes) (drop bytes text) (omega (arith, length-drop bytes text))

-- ---- the script after a plan

module _ (plan : HalvingNumbers) (number : ℕ) (lines : List (List ℕ)) (shape : Shape)
    (size : shape_nodes shape ≡ plan.nodes) (faults : ℕ) (few : faults ≡ plan.faults) where
  -- the script, by the shape's nodes
  abbrev pub said : Result Script (At Rule)
  said = script_for (shape_nodes shape) faults shape number lines

  said_is : said ≡ script_behind plan shape number lines
  said_is =
      ap (λ (f : ℕ). script_for (shape_nodes shape) f shape number lines) few
      ∙ ap (λ (n : ℕ). script_for n plan.faults shape number lines) size

  pub script_fails : (e : PartError Rule) → FailsAsDefined e said
      → FailsBehind plan shape number lines (part_error named.Script e)
  script_fails unread.NoMemory defined = tt
  script_fails (unread.Refused refused) defined =
      ap (then_read in_script (λ (s : Script). Ok s)) (sym said_is ∙ defined)

  pub read_behind : (machine : HalvingNumbers) → machine ≡ plan → (s : Script) → said ≡ Ok s
      → IsReadBehind plan shape number lines (machine, shape, s)
  read_behind machine is s read =
      record { same = is; states = refl; is = sym said_is ∙ read }

same_error : {V : Type 0} (r : Result V RunRefusal) (a b : RunRefusal) → r ≡ Err a → r ≡ Err b
    → a ≡ b
same_error r a b one other = cc

-- the error after a plan is that of what is made of the script
behind_fails : {W : Type 0} (make : Script → Result W RunRefusal) (r : Result Script (At Rule))
    (e : PlayError) → Refuses e (then_read in_script (λ (s : Script). Ok s) r)
    → Refuses e (then_read in_script make r)
behind_fails make r error.NoMemory fails = tt
behind_fails make r error.WriteFault fails = fails
behind_fails make (Ok s) (error.Refused refused) fails = absurd (cc)
behind_fails make (Err at) (error.Refused refused) fails =
    ap Err (same_error (then_read in_script (λ (s : Script). Ok s) (Err at)) (in_script at) refused
    refl fails)

-- ---- of an input

module _ (input : List ℕ) (plan : HalvingNumbers) (bytes lines : ℕ)
    (read : halving_of input ≡ Ok (found_in input (plan, bytes, lines))) where
  abbrev pub rest : List ℕ
  rest = take (length input - bytes) (drop bytes input)

  -- what is made of the plan
  by_plan : {W : Type 0} (make : Found HalvingNumbers → Result W RunRefusal)
      → then_read in_plan make (halving_of input)
      ≡ make (record { value = plan; taken = lines; behind = lines_of rest })
  by_plan make =
      ap (then_read in_plan make) read
      ∙ ap (λ (text : List ℕ). make (record {
        value = plan;
        taken = lines;
        behind = lines_of text;
      })) (sym (all_left input bytes))

  module _ (shape : Shape) (own : shape ≡ shape_of plan) where
    scripted_is : then_read in_plan scripted_behind (halving_of input)
        ≡ then_read in_script (with_script plan)
        (script_behind plan shape (1 + lines) (lines_of rest))
    scripted_is =
        by_plan scripted_behind
        ∙ ap (λ (s : Shape). then_read in_script (with_script plan)
        (script_behind plan s (1 + lines) (lines_of rest))) (sym own)

    pub is_scripted : (s : HalvingNumbers × Shape × Script)
        → IsReadBehind plan shape (1 + lines) (lines_of rest) s
        → scripted_of input ≡ Ok (record { plan = s.0; script = s.2 })
    is_scripted s is =
        scripted_is ∙ ap (then_read in_script (with_script plan)) is.is
        ∙ ap (λ (p : HalvingNumbers). with_script p s.2) (sym is.same)

    pub scripted_fails : (e : PlayError)
        → FailsBehind plan shape (1 + lines) (lines_of rest) e → Refuses e (scripted_of input)
    scripted_fails e fails =
        subst (Refuses e) (sym scripted_is)
        (behind_fails (with_script plan)
        (script_behind plan shape (1 + lines) (lines_of rest)) e fails)

  -- with a part of that name after the plan
  module _ {Content : Type 0} (name : Part)
      (part_of : HalvingNumbers → (number : ℕ) → List (List ℕ) → Result (Found Content) (At Rule))
      (shape_for : HalvingNumbers → Content → Shape) where
    abbrev defined : Result (Layered Content) RunRefusal
    defined = layered_of name part_of shape_for input

    by_part : defined
        ≡ then_read (in_part name) (behind_part name part_of shape_for plan (1 + lines))
        (part_of plan (1 + lines) (lines_of rest))
    by_part = by_plan (layered_behind name part_of shape_for)

    part_fails : (at : At Rule) → part_of plan (1 + lines) (lines_of rest) ≡ Err at
        → defined ≡ Err (in_part name at)
    part_fails at is =
        by_part
        ∙ ap (then_read (in_part name) (behind_part name part_of shape_for plan (1 + lines))) is

    pub part_unread : (e : PartError Rule)
        → FailsAsDefined e (part_of plan (1 + lines) (lines_of rest))
        → Refuses (part_error name e) defined
    part_unread unread.NoMemory fails = tt
    part_unread (unread.Refused refused) fails =
        part_fails (record { line = refused.line; rule = refused.rule }) fails

    module _ (value : Content) (taken part_lines : ℕ)
        (part : part_of plan (1 + lines) (lines_of rest)
        ≡ Ok (record { value = value; taken = part_lines; behind = lines_of (drop taken rest) }))
        (shape : Shape) (own : shape ≡ shape_for plan value) where
      abbrev pub behind : List ℕ
      behind = take (length rest - taken) (drop taken rest)

      abbrev script_number : ℕ
      script_number = 1 + lines + part_lines

      abbrev script_by : Shape → List ℕ → Result (Layered Content) RunRefusal
      script_by s text =
          then_read in_script (with_said plan value)
          (script_behind plan s script_number (lines_of text))

      by_script : defined ≡ script_by shape behind
      by_script =
          by_part
          ∙ ap (then_read (in_part name) (behind_part name part_of shape_for plan (1 + lines))) part
          ∙ ap (λ (text : List ℕ). script_by (shape_for plan value) text)
          (sym (all_left rest taken))
          ∙ ap (λ (s : Shape). script_by s behind) (sym own)

      pub is_layered : (s : HalvingNumbers × Shape × Script)
          → IsReadBehind plan shape script_number (lines_of behind) s
          → defined ≡ Ok (record { plan = s.0; said = value; script = s.2 })
      is_layered s is =
          by_script ∙ ap (then_read in_script (with_said plan value)) is.is
          ∙ ap (λ (p : HalvingNumbers). with_said p value s.2) (sym is.same)

      pub layered_fails : (e : PlayError)
          → FailsBehind plan shape script_number (lines_of behind) e → Refuses e defined
      layered_fails e fails =
          subst (Refuses e) (sym by_script)
          (behind_fails (with_said plan value)
          (script_behind plan shape script_number (lines_of behind)) e fails)
