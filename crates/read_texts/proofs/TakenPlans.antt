-- What is read as a plan is the text of the plan.
use Rattle.std.proofs.Common.{◌≡◌, inl, ℕ, ◌+◌, Bool, true, false, cond, List, [], ◌∷◌, ◌++◌, map}
use Rattle.std.proofs.Common.{reverse, Option, Some, None, Result, Ok, Err, refl, sym, ap, ◌∙◌}
use Rattle.std.proofs.Common.{subst, append_assoc, arith}
use Rattle.std.specs.Prelude.{⊤, IfOk, IfSome, codes, decimal, ◌==◌, ◌&&◌, if◌then◌else◌}
use Rattle.std.specs.Str.{bytes_eq}
use Rattle.std.specs.List.{flat_map}
use Rattle.std.proofs.lemmas.Bool.{and_parts, eqb-true}
use Rattle.std.proofs.lemmas.List.{append-nil}
use Rattle.std.proofs.lemmas.Grind.{flat_map-append, reverse_onto}
use Rattle.std.proofs.lemmas.Fmt.{decimal_digit}
use Rattle.texts.specs.Lines.{lines_of, words_of}
use Rattle.texts.specs.Shapes.{numbers_of, numbers_after}
use Rattle.texts.specs.Parts.{Next, ends, Found, At}
use Rattle.part_lines.specs.TakenLines.{counting, Took}
use Rattle.texts.specs.Words.{joined, ended, text_of}
use Rattle.texts.proofs.LineWords.{words_back}
use Rattle.texts.proofs.Parts.{After, after_if}
use Rattle.part_lines.proofs.ReadWords.{same_bytes, words_are, IsLineOf, line_is, text_with}
use Rattle.part_lines.proofs.TakenLines.{took}
use Rattle.sync_types.specs.declared.answers.Premise.{Premise}
use Rattle.sync_types.specs.declared.answers.Premise.TheVariants.{Form}
use Rattle.construction.specs.Plans.{Level, Plan}
use Rattle.plan_numbers.specs.Numbers.{line, with_level, numbers_below}
use Rattle.plan_numbers.specs.Premises.{base_premise, first_premise, unless}
use Rattle.plan_reader.specs.declared.stages.PlanStage.{PlanStage}
use Rattle.plan_reader.specs.declared.stages.PlanStage.TheVariants.{Unread, Begun, Built}
use Rattle.plan_reader.specs.PlanPart.{plan_of, whole_plan_of, alone, unless_followed, plan_step}
use Rattle.plan_reader.specs.PlanPart.{begins, base_by, level_by, without_spares, with_spares}
use Rattle.plan_reader.specs.PlanPart.{level_quadruple, after_level, goes_with}
use Rattle.plan_reader.specs.PlanTexts.{level_text, level_texts, plan_text}
use Rattle.read_texts.specs.ReadPlans.{ReadIsPlanText, ReadIsWholePlanText, PlanIsRefusedAlone}
use Rattle.plan_reader.specs.Skipped.{first_unskipped}
use Rattle.plan_reader.specs.TextLines.{version_line, base_line}
use Rattle.read_texts.specs.Unskipped.{IsRefusedAlone}
use Rattle.plan_reader.proofs.StatedLines.{base_text, text_1, text_2}
use Rattle.read_texts.proofs.Unskipped.{none_behind, followed_at}

-- ---- the text so far

abbrev built_text : Plan → List ℕ
built_text plan =
    version_line (codes "plan ") plan.version
    ++ (base_line plan.base ++ level_texts plan.version plan)

abbrev text_so_far : PlanStage → List ℕ
text_so_far Unread = []
text_so_far (Begun version) = version_line (codes "plan ") version
text_so_far (Built plan) = built_text plan

abbrev Says : PlanStage → List (List ℕ) → Type 0
Says stage said = text_of said ≡ text_so_far stage

abbrev SaysAll : Plan → List (List ℕ) → Type 0
SaysAll plan said = text_of said ≡ plan_text plan.version plan

abbrev Goes : List (List ℕ) → Next PlanStage Plan Premise → Type 0
Goes said next = After (λ stage. Says stage said) (λ plan. SaysAll plan said) next

-- one more line
says_more : (said : List (List ℕ)) (line so_far more : List ℕ) → text_of said ≡ so_far
    → ended line ≡ more → text_of (said ++ line ∷ []) ≡ so_far ++ more
says_more said line so_far more is one =
    text_with said line ∙ ap (λ t. t ++ ended line) is ∙ ap (λ t. so_far ++ t) one

-- ---- the lines

-- the first line
headed : (said : List (List ℕ)) (line : List ℕ) (one two : Bool)
    → bytes_eq line (codes "plan 1") ≡ one → bytes_eq line (codes "plan 2") ≡ two
    → text_of said ≡ []
    → Goes (said ++ line ∷ []) (begins (cond one (Some 1) (cond two (Some 2) None)))
headed said line true two is is_2 none =
    let text : version_line (codes "plan ") 1 ≡ codes "plan 1\n" =
    rw (decimal_digit 1 (omega arith)) refl in
    says_more said line [] (codes "plan 1\n") none (ap ended (same_bytes line (codes "plan 1") is))
    ∙ sym text
headed said line false true is is_2 none =
    let text : version_line (codes "plan ") 2 ≡ codes "plan 2\n" =
    rw (decimal_digit 2 (omega arith)) refl in
    says_more said line [] (codes "plan 2\n") none
    (ap ended (same_bytes line (codes "plan 2") is_2))
    ∙ sym text
headed said line false false is is_2 none = tt

unless_built : (said : List (List ℕ)) (premise : Option Premise) (plan : Plan)
    → text_of said ≡ built_text plan → Goes said (goes_with (unless premise plan))
unless_built said None plan is = is
unless_built said (Some premise) plan is = tt

-- the line of the base
based : (version : ℕ) (said : List (List ℕ)) (line : List ℕ) (numbers : Option (List ℕ))
    → IfSome numbers (IsLineOf (codes "base") line)
    → text_of said ≡ version_line (codes "plan ") version
    → Goes (said ++ line ∷ []) (goes_with (base_by version numbers))
based version said line None is so_far = tt
based version said line (Some []) is so_far = tt
based version said line (Some (base ∷ [])) is so_far =
    let plan : Plan = record { version = version; base = base; levels = [] } in
    let one : ended line ≡ base_line base ++ [] =
    ap ended is ∙ sym (base_text base []) in
    unless_built (said ++ line ∷ []) (base_premise base) plan
    (says_more said line (version_line (codes "plan ") version) (base_line base ++ []) so_far one)
based version said line (Some (base ∷ n ∷ numbers)) is so_far = tt

-- the line of a level says it
abbrev IsStated : (version : ℕ) → List ℕ → List ℕ → Type 0
IsStated version line (k ∷ f ∷ c ∷ s ∷ []) =
    ended line ≡ level_text version (record { blocks = k; faults = f; modulus = c; spares = s })
IsStated version line other = ⊤

stated_1 : (line : List ℕ) (numbers : Option (List ℕ))
    → IfSome numbers (IsLineOf (codes "level") line)
    → IfSome (without_spares numbers) (IsStated 1 line)
stated_1 line None is = tt
stated_1 line (Some []) is = tt
stated_1 line (Some (k ∷ [])) is = tt
stated_1 line (Some (k ∷ f ∷ [])) is = tt
stated_1 line (Some (k ∷ f ∷ c ∷ [])) is =
    let level : Level = record { blocks = k; faults = f; modulus = c; spares = 0 } in
    ap ended is ∙ sym (text_1 level []) ∙ append-nil (level_text 1 level)
stated_1 line (Some (k ∷ f ∷ c ∷ s ∷ numbers)) is = tt

spared : (line k f c s : List ℕ) (numbers : Option (List ℕ))
    → line ≡ joined (codes "level" ∷ k ∷ f ∷ c ∷ codes "spare" ∷ s ∷ [])
    → IfSome numbers (λ ns. k ∷ f ∷ c ∷ s ∷ [] ≡ map decimal ns)
    → IfSome numbers (IsStated 2 line)
spared line k f c s None is are = tt
spared line k f c s (Some []) is are = tt
spared line k f c s (Some (a ∷ [])) is are = tt
spared line k f c s (Some (a ∷ b ∷ [])) is are = tt
spared line k f c s (Some (a ∷ b ∷ d ∷ [])) is are = tt
spared line k f c s (Some (a ∷ b ∷ d ∷ e ∷ [])) is are =
    let level : Level = record { blocks = a; faults = b; modulus = d; spares = e } in
    let words : List (List ℕ) → List (List ℕ) = λ ws. elim ws as (λ _. List (List ℕ)) [
      | [] ↦ []
      | x ∷ xs ↦ xs
    ] in
    let same_k : k ≡ decimal a = cc in
    let same_f : f ≡ decimal b = cc in
    let same_c : c ≡ decimal d = cc in
    let same_s : s ≡ decimal e = cc in
    ap ended (is
    ∙ ap (λ w. joined (codes "level" ∷ w ∷ f ∷ c ∷ codes "spare" ∷ s ∷ [])) same_k
    ∙ ap (λ w. joined (codes "level" ∷ decimal a ∷ w ∷ c ∷ codes "spare" ∷ s ∷ [])) same_f
    ∙ ap (λ w. joined (codes "level" ∷ decimal a ∷ decimal b ∷ w ∷ codes "spare" ∷ s ∷ [])) same_c
    ∙ ap (λ w. joined (codes "level" ∷ decimal a ∷ decimal b ∷ decimal d ∷ codes "spare" ∷ w ∷ []))
    same_s)
    ∙ sym (text_2 level []) ∙ append-nil (level_text 2 level)
spared line k f c s (Some (a ∷ b ∷ d ∷ e ∷ n ∷ numbers)) is are = tt

stated_2 : (line : List ℕ) (words : List (List ℕ)) → line ≡ joined words
    → IfSome (with_spares words) (IsStated 2 line)
stated_2 line [] is = tt
stated_2 line (level ∷ []) is = tt
stated_2 line (level ∷ k ∷ []) is = tt
stated_2 line (level ∷ k ∷ f ∷ []) is = tt
stated_2 line (level ∷ k ∷ f ∷ c ∷ []) is = tt
stated_2 line (level ∷ k ∷ f ∷ c ∷ spare ∷ []) is = tt
stated_2 line (level ∷ k ∷ f ∷ c ∷ spare ∷ s ∷ []) is =
    by (bytes_eq level (codes "level") && bytes_eq spare (codes "spare")) refl where
      by : (b : Bool) → (bytes_eq level (codes "level") && bytes_eq spare (codes "spare")) ≡ b
          → IfSome (if b then numbers_of 4 (k ∷ f ∷ c ∷ s ∷ []) else None) (IsStated 2 line)
      by false e = tt
      by true e =
          let both = and_parts (bytes_eq level (codes "level"))
          (bytes_eq spare (codes "spare")) e in
          spared line k f c s (numbers_of 4 (k ∷ f ∷ c ∷ s ∷ []))
          (is
          ∙ ap (λ w. joined (w ∷ k ∷ f ∷ c ∷ spare ∷ s ∷ []))
          (same_bytes level (codes "level") both.0)
          ∙ ap (λ w. joined (codes "level" ∷ k ∷ f ∷ c ∷ w ∷ s ∷ []))
          (same_bytes spare (codes "spare") both.1))
          (words_are 4 (k ∷ f ∷ c ∷ s ∷ []))
stated_2 line (level ∷ k ∷ f ∷ c ∷ spare ∷ s ∷ word ∷ words) is = tt

-- in a version that is not 1 the text is that of version 2
later_text : (version : ℕ) (line : List ℕ) (numbers : Option (List ℕ)) → (version == 1) ≡ false
    → IfSome numbers (IsStated 2 line) → IfSome numbers (IsStated version line)
later_text version line None e is = tt
later_text version line (Some []) e is = tt
later_text version line (Some (k ∷ [])) e is = tt
later_text version line (Some (k ∷ f ∷ [])) e is = tt
later_text version line (Some (k ∷ f ∷ c ∷ [])) e is = tt
later_text version line (Some (k ∷ f ∷ c ∷ s ∷ [])) e is = rw e is
later_text version line (Some (k ∷ f ∷ c ∷ s ∷ n ∷ numbers)) e is = tt

stated_by : (version : ℕ) (line : List ℕ) (one : Bool) → (version == 1) ≡ one
    → IfSome (if one then without_spares (numbers_after (codes "level") 3 (words_of line))
    else with_spares (words_of line)) (IsStated version line)
stated_by version line true e =
    subst (λ v. IfSome (without_spares (numbers_after (codes "level") 3 (words_of line)))
    (IsStated v line)) (sym (eqb-true version 1 e))
    (stated_1 line (numbers_after (codes "level") 3 (words_of line))
    (line_is (codes "level") line 3))
stated_by version line false e =
    later_text version line (with_spares (words_of line)) e
    (stated_2 line (words_of line) (sym (words_back line)))

-- the top level's line stands after those of the levels below it
top_text : (version : ℕ) (level : Level) (below : List Level)
    → flat_map (level_text version) (reverse (level ∷ below))
    ≡ flat_map (level_text version) (reverse below) ++ level_text version level
top_text version level below =
    let text = level_text version in
    ap (flat_map text) (reverse_onto below level [])
    ∙ flat_map-append text (reverse below) (level ∷ [])
    ∙ ap (λ t. flat_map text (reverse below) ++ t) (append-nil (text level))

levelled : (plan : Plan) (said : List (List ℕ)) (line : List ℕ) (numbers : Option (List ℕ))
    → IfSome numbers (IsStated plan.version line) → text_of said ≡ built_text plan
    → Goes (said ++ line ∷ []) (goes_with (level_by plan numbers))
levelled plan said line None is so_far = tt
levelled plan said line (Some []) is so_far = tt
levelled plan said line (Some (k ∷ [])) is so_far = tt
levelled plan said line (Some (k ∷ f ∷ [])) is so_far = tt
levelled plan said line (Some (k ∷ f ∷ c ∷ [])) is so_far = tt
levelled plan said words (Some (k ∷ f ∷ c ∷ s ∷ [])) is so_far =
    let level = line k f c s in
    let first = version_line (codes "plan ") plan.version in
    let second = base_line plan.base in
    let lower = level_texts plan.version plan in
    let one = level_text plan.version level in
    unless_built (said ++ words ∷ []) (first_premise (numbers_below plan) level)
    (with_level plan level)
    (says_more said words (built_text plan) one so_far is
    ∙ append_assoc first (second ++ lower) one
    ∙ ap (λ t. first ++ t) (append_assoc second lower one)
    ∙ ap (λ t. first ++ (second ++ t)) (sym (top_text plan.version level plan.levels)))
levelled plan said line (Some (k ∷ f ∷ c ∷ s ∷ n ∷ numbers)) is so_far = tt

whole_text : (plan : Plan) → built_text plan ++ codes "end\n" ≡ plan_text plan.version plan
whole_text plan =
    let first = version_line (codes "plan ") plan.version in
    let second = base_line plan.base in
    let levels = level_texts plan.version plan in
    append_assoc first (second ++ levels) (codes "end\n")
    ∙ ap (λ t. first ++ t) (append_assoc second levels (codes "end\n"))

closed : (plan : Plan) (said : List (List ℕ)) (line : List ℕ) (is : Bool)
    → bytes_eq line (codes "end") ≡ is → text_of said ≡ built_text plan
    → Goes (said ++ line ∷ []) (if is then ends plan else goes_with (after_level plan line))
closed plan said line true is so_far =
    says_more said line (built_text plan) (codes "end\n") so_far
    (ap ended (same_bytes line (codes "end") is))
    ∙ whole_text plan
closed plan said line false is so_far =
    levelled plan said line (level_quadruple plan.version (words_of line))
    (stated_by plan.version line (plan.version == 1) refl) so_far

line_said : (stage : PlanStage) (said : List (List ℕ)) (line : List ℕ) → Says stage said
    → Goes (said ++ line ∷ []) (plan_step stage line)
line_said Unread said line so_far =
    headed said line (bytes_eq line (codes "plan 1")) (bytes_eq line (codes "plan 2")) refl refl
    so_far
line_said (Begun version) said line so_far =
    based version said line (numbers_after (codes "base") 1 (words_of line))
    (line_is (codes "base") line 1) so_far
line_said (Built plan) said line so_far =
    closed plan said line (bytes_eq line (codes "end")) refl so_far

-- the lines that count are those of the plan
pub read_is_text : ReadIsPlanText
read_is_text input = took plan_step Form Says SaysAll line_said (lines_of input) Unread 1 refl

-- ---- alone

followed : (input : List ℕ) (found : Found Plan) (number : Option ℕ)
    → first_unskipped (1 + found.taken) found.behind ≡ number
    → Took (lines_of input) found
    (λ said. text_of said ≡ plan_text found.value.version found.value)
    → IfOk (unless_followed number found.value)
    (λ plan. text_of (counting (lines_of input)) ≡ plan_text plan.version plan)
followed input found (Some number) is t = tt
followed input found None is t =
    ap text_of (none_behind (lines_of input) t.front found.behind (1 + found.taken) t.parts is)
    ∙ t.says

whole : (input : List ℕ) (read : Result (Found Plan) (At Premise))
    → IfOk read (λ found. Took (lines_of input) found
    (λ said. text_of said ≡ plan_text found.value.version found.value))
    → IfOk (alone read)
    (λ plan. text_of (counting (lines_of input)) ≡ plan_text plan.version plan)
whole input (Ok found) t =
    followed input found (first_unskipped (1 + found.taken) found.behind) refl t
whole input (Err at) t = tt

pub read_is_whole : ReadIsWholePlanText
read_is_whole input = whole input (plan_of input) (read_is_text input)

refused_behind : (input : List ℕ) (found : Found Plan) (number : Option ℕ) (at : At Premise)
    → plan_of input ≡ Ok found → first_unskipped (1 + found.taken) found.behind ≡ number
    → unless_followed number found.value ≡ Err at → IsRefusedAlone Form 1 (plan_of input) at
refused_behind input found None at is there e = absurd cc
refused_behind input found (Some n) at is there e =
    followed_at Form 1 (plan_of input) found at n is there cc

refused_by : (input : List ℕ) (read : Result (Found Plan) (At Premise)) (at : At Premise)
    → plan_of input ≡ read → alone read ≡ Err at → IsRefusedAlone Form 1 (plan_of input) at
refused_by input (Ok found) at is e =
    refused_behind input found (first_unskipped (1 + found.taken) found.behind) at is refl e
refused_by input (Err other) at is e =
    let same : other ≡ at = cc in inl (is ∙ ap Err same)

pub refused_alone : PlanIsRefusedAlone
refused_alone input at e = refused_by input (plan_of input) at refl e
