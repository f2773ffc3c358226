-- What is read as a halving plan is its text.
use Rattle.std.proofs.Common.{◌≡◌, inl, ℕ, ◌+◌, Bool, true, false, List, [], ◌∷◌, ◌++◌, map, Option}
use Rattle.std.proofs.Common.{Some, None, Result, Ok, Err, decimal, refl, sym, ap, ◌∙◌}
use Rattle.std.proofs.Common.{append_assoc}
use Rattle.std.proofs.lemmas.List.{append-nil}
use Rattle.std.specs.Prelude.{IfOk, IfSome, if◌then◌else◌, codes}
use Rattle.std.specs.Str.{bytes_eq}
use Rattle.texts.specs.Lines.{lines_of, words_of}
use Rattle.texts.specs.Shapes.{numbers_after}
use Rattle.texts.specs.Parts.{Next, goes, ends, refuses, Found, At}
use Rattle.texts.specs.Words.{joined, text_of}
use Rattle.texts.proofs.Parts.{After}
use Rattle.part_lines.specs.TakenLines.{counting, Took}
use Rattle.part_lines.proofs.ReadWords.{same_bytes, IsLineOf, line_is, took_weaker}
use Rattle.part_lines.proofs.TakenLines.{took}
use Rattle.plan_reader.specs.Skipped.{first_unskipped}
use Rattle.halving_plan.specs.Plans.{HalvingNumbers, first_premise}
use Rattle.halving_plan.specs.declared.premises.HalvingPremise.{HalvingPremise}
use Rattle.halving_texts.specs.declared.premises.LinePremise.{LinePremise}
use Rattle.halving_texts.specs.declared.premises.LinePremise.TheVariants.{Form}
use Rattle.halving_texts.specs.declared.stages.HalvingStage.{HalvingStage}
use Rattle.halving_texts.specs.declared.stages.HalvingStage.TheVariants.{Unread, Begun, Stated}
use Rattle.halving_texts.specs.HalvingPart.{unless_fails, plan_by, plan_in, goes_with, halving_step}
use Rattle.halving_texts.specs.HalvingPart.{halving_of, whole_halving_of, unless_followed, alone}
use Rattle.halving_texts.specs.HalvingTexts.{halving_text}
use Rattle.read_texts.specs.ReadHalving.{ReadIsHalvingText, ReadIsWholeHalvingText}
use Rattle.read_texts.specs.ReadHalving.{HalvingIsRefusedAlone}
use Rattle.read_texts.specs.Unskipped.{IsRefusedAlone}
use Rattle.read_texts.proofs.Unskipped.{none_behind, followed_at}

-- the line of a plan
abbrev pub group_line : HalvingNumbers → List ℕ
group_line plan = joined (
    codes "group" ∷ decimal plan.nodes ∷ decimal plan.faults ∷ decimal plan.modulus ∷ [])

-- what the lines of a stage say
abbrev Says : HalvingStage → List (List ℕ) → Type 0
Says Unread said = said ≡ []
Says Begun said = said ≡ codes "halving 1" ∷ []
Says (Stated plan) said = said ≡ codes "halving 1" ∷ group_line plan ∷ []

abbrev SaysAll : HalvingNumbers → List (List ℕ) → Type 0
SaysAll plan said = said ≡ codes "halving 1" ∷ group_line plan ∷ codes "end" ∷ []

abbrev Goes : List (List ℕ) → Next HalvingStage HalvingNumbers LinePremise → Type 0
Goes said next = After (λ stage. Says stage said) (λ plan. SaysAll plan said) next

headed : (said : List (List ℕ)) (line : List ℕ) (is : Bool)
    → bytes_eq line (codes "halving 1") ≡ is → said ≡ []
    → Goes (said ++ line ∷ []) (if is then goes Begun else refuses Form)
headed said line false is none = tt
headed said line true is none =
    ap (λ ls. ls ++ line ∷ []) none ∙ ap (λ l. l ∷ []) (same_bytes line (codes "halving 1") is)

ended : (plan : HalvingNumbers) (said : List (List ℕ)) (line : List ℕ) (is : Bool)
    → bytes_eq line (codes "end") ≡ is → Says (Stated plan) said
    → Goes (said ++ line ∷ []) (if is then ends plan else refuses Form)
ended plan said line false is h = tt
ended plan said line true is h =
    ap (λ ls. ls ++ line ∷ []) h
    ∙ ap (λ l. codes "halving 1" ∷ group_line plan ∷ l ∷ []) (same_bytes line (codes "end") is)

unless_kept : (premise : Option HalvingPremise) (plan : HalvingNumbers) (line : List ℕ)
    → line ≡ group_line plan → IfOk (unless_fails premise plan) (λ plan. line ≡ group_line plan)
unless_kept None plan line is = is
unless_kept (Some premise) plan line is = tt

planned : (line : List ℕ) (numbers : Option (List ℕ))
    → IfSome numbers (IsLineOf (codes "group") line)
    → IfOk (plan_by numbers) (λ plan. line ≡ group_line plan)
planned line None is = tt
planned line (Some []) is = tt
planned line (Some (n ∷ [])) is = tt
planned line (Some (n ∷ f ∷ [])) is = tt
planned line (Some (n ∷ f ∷ c ∷ [])) is =
    let plan : HalvingNumbers = record { nodes = n; faults = f; modulus = c } in
    unless_kept (first_premise plan) plan line is
planned line (Some (n ∷ f ∷ c ∷ m ∷ more)) is = tt

gone : (said : List (List ℕ)) (line : List ℕ) (read : Result HalvingNumbers LinePremise)
    → IfOk read (λ plan. line ≡ group_line plan) → said ≡ codes "halving 1" ∷ []
    → Goes (said ++ line ∷ []) (goes_with read)
gone said line (Err premise) is h = tt
gone said line (Ok plan) is h =
    ap (λ ls. ls ++ line ∷ []) h ∙ ap (λ l. codes "halving 1" ∷ l ∷ []) is

stepped : (stage : HalvingStage) (said : List (List ℕ)) (line : List ℕ) → Says stage said
    → Goes (said ++ line ∷ []) (halving_step stage line)
stepped Unread said line h = headed said line (bytes_eq line (codes "halving 1")) refl h
stepped Begun said line h =
    gone said line (plan_in line)
    (planned line (numbers_after (codes "group") 3 (words_of line))
    (line_is (codes "group") line 3)) h
stepped (Stated plan) said line h = ended plan said line (bytes_eq line (codes "end")) refl h

lines_text : (plan : HalvingNumbers)
    → text_of (codes "halving 1" ∷ group_line plan ∷ codes "end" ∷ []) ≡ halving_text plan
lines_text plan = simp (append_assoc, append-nil)

pub read_is_text : ReadIsHalvingText
read_is_text input =
    took_weaker (lines_of input) SaysAll (λ plan said. text_of said ≡ halving_text plan)
    (λ plan said is. ap text_of is ∙ lines_text plan) (halving_of input)
    (took halving_step Form Says SaysAll stepped (lines_of input) Unread 1 refl)

-- ---- alone

followed : (input : List ℕ) (found : Found HalvingNumbers) (number : Option ℕ)
    → first_unskipped (1 + found.taken) found.behind ≡ number
    → Took (lines_of input) found (λ said. text_of said ≡ halving_text found.value)
    → IfOk (unless_followed number found.value)
    (λ plan. text_of (counting (lines_of input)) ≡ halving_text plan)
followed input found (Some number) is t = tt
followed input found None is t =
    ap text_of (none_behind (lines_of input) t.front found.behind (1 + found.taken) t.parts is)
    ∙ t.says

whole : (input : List ℕ) (read : Result (Found HalvingNumbers) (At LinePremise))
    → IfOk read
    (λ found. Took (lines_of input) found (λ said. text_of said ≡ halving_text found.value))
    → IfOk (alone read) (λ plan. text_of (counting (lines_of input)) ≡ halving_text plan)
whole input (Ok found) t =
    followed input found (first_unskipped (1 + found.taken) found.behind) refl t
whole input (Err at) t = tt

pub read_is_whole : ReadIsWholeHalvingText
read_is_whole input = whole input (halving_of input) (read_is_text input)

-- ---- refused

refused_behind : (input : List ℕ) (found : Found HalvingNumbers) (number : Option ℕ)
    (at : At LinePremise) → halving_of input ≡ Ok found
    → first_unskipped (1 + found.taken) found.behind ≡ number
    → unless_followed number found.value ≡ Err at → IsRefusedAlone Form 1 (halving_of input) at
refused_behind input found None at is there e = absurd cc
refused_behind input found (Some n) at is there e =
    followed_at Form 1 (halving_of input) found at n is there cc

refused_by : (input : List ℕ) (read : Result (Found HalvingNumbers) (At LinePremise))
    (at : At LinePremise) → halving_of input ≡ read → alone read ≡ Err at
    → IsRefusedAlone Form 1 (halving_of input) at
refused_by input (Ok found) at is e =
    refused_behind input found (first_unskipped (1 + found.taken) found.behind) at is refl e
refused_by input (Err other) at is e =
    let same : other ≡ at = cc in inl (is ∙ ap Err same)

pub refused_alone : HalvingIsRefusedAlone
refused_alone input at e = refused_by input (halving_of input) at refl e
