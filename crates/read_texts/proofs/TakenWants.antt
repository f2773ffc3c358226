-- What is read as wants is their text.
use Rattle.std.proofs.Common.{◌≡◌, inl, ℕ, ◌+◌, Bool, true, false, List, [], ◌∷◌, ◌++◌, map, Option}
use Rattle.std.proofs.Common.{Some, None, Result, Ok, Err, decimal, refl, ap, ◌∙◌}
use Rattle.std.specs.Prelude.{IfOk, IfSome, ◌^◌, ◌||◌, nat_lt, if◌then◌else◌, codes}
use Rattle.std.specs.Str.{bytes_eq}
use Rattle.texts.specs.Lines.{lines_of, words_of}
use Rattle.texts.specs.Shapes.{numbers_after}
use Rattle.texts.specs.Parts.{Next, goes, ends, refuses, Found, At, with_skips, part_from}
use Rattle.texts.specs.Words.{joined, text_of}
use Rattle.texts.proofs.Parts.{After}
use Rattle.part_lines.specs.TakenLines.{counting, Took}
use Rattle.part_lines.proofs.ReadWords.{same_bytes, IsLineOf, line_is, behind_test}
use Rattle.part_lines.proofs.TakenLines.{took}
use Rattle.sync_types.specs.declared.answers.Rule.{Rule}
use Rattle.sync_types.specs.declared.answers.Rule.TheVariants.{Form, Limit, Range}
use Rattle.plan_reader.specs.Skipped.{first_unskipped}
use Rattle.plan_finder.specs.declared.wants.Want.{Want}
use Rattle.plan_finder.specs.declared.want_lines.FindStage.{FindStage}
use Rattle.plan_finder.specs.declared.want_lines.FindStage.TheVariants.{Unread, Begun, Wanted}
use Rattle.plan_finder.specs.FindPart.{want_by, goes_with, after_want, find_step, unless_followed}
use Rattle.plan_finder.specs.FindPart.{alone, want_of}
use Rattle.plan_finder.specs.WantTexts.{want_words, want_text}
use Rattle.read_texts.specs.ReadWants.{ReadIsWantText, WantIsRefusedAlone}
use Rattle.read_texts.specs.Unskipped.{IsRefusedAlone}
use Rattle.read_texts.proofs.Unskipped.{none_behind, followed_at}

abbrev part : List ℕ → Result (Found Want) (At Rule)
part input = part_from (with_skips find_step Form) Form Unread 0 1 (lines_of input)

-- what the lines of a stage say
abbrev Says : FindStage → List (List ℕ) → Type 0
Says Unread said = said ≡ []
Says Begun said = said ≡ codes "find 1" ∷ []
Says (Wanted want) said = said ≡ codes "find 1" ∷ joined (want_words want) ∷ []

abbrev SaysAll : Want → List (List ℕ) → Type 0
SaysAll want said = said ≡ codes "find 1" ∷ joined (want_words want) ∷ codes "end" ∷ []

abbrev Goes : List (List ℕ) → Next FindStage Want Rule → Type 0
Goes said next = After (λ stage. Says stage said) (λ want. SaysAll want said) next

headed : (said : List (List ℕ)) (line : List ℕ) (is : Bool) → bytes_eq line (codes "find 1") ≡ is
    → said ≡ [] → Goes (said ++ line ∷ []) (if is then goes Begun else refuses Form)
headed said line false is none = tt
headed said line true is none =
    ap (λ ls. ls ++ line ∷ []) none ∙ ap (λ l. l ∷ []) (same_bytes line (codes "find 1") is)

ended : (want : Want) (said : List (List ℕ)) (line : List ℕ) (is : Bool)
    → bytes_eq line (codes "end") ≡ is → Says (Wanted want) said
    → Goes (said ++ line ∷ []) (if is then ends want else refuses Form)
ended want said line false is h = tt
ended want said line true is h =
    ap (λ ls. ls ++ line ∷ []) h
    ∙ ap (λ l. codes "find 1" ∷ joined (want_words want) ∷ l ∷ [])
    (same_bytes line (codes "end") is)

wanted : (line : List ℕ) (numbers : Option (List ℕ))
    → IfSome numbers (IsLineOf (codes "want") line)
    → IfOk (want_by numbers) (λ want. line ≡ joined (want_words want))
wanted line None is = tt
wanted line (Some []) is = tt
wanted line (Some (f ∷ [])) is = tt
wanted line (Some (f ∷ c ∷ [])) is = tt
wanted line (Some (f ∷ c ∷ most ∷ [])) is =
    let Is : Want → Type 0 = λ want. line ≡ joined (want_words want) in
    behind_test Is (nat_lt 85 f || nat_lt (2 ^ 40) c || nat_lt 256 most) Limit _
    (behind_test Is (nat_lt c 2 || nat_lt most 1) Range _ is)
wanted line (Some (f ∷ c ∷ most ∷ n ∷ more)) is = tt

gone : (said : List (List ℕ)) (line : List ℕ) (read : Result Want Rule)
    → IfOk read (λ want. line ≡ joined (want_words want)) → said ≡ codes "find 1" ∷ []
    → Goes (said ++ line ∷ []) (goes_with read)
gone said line (Err rule) is h = tt
gone said line (Ok want) is h =
    ap (λ ls. ls ++ line ∷ []) h ∙ ap (λ l. codes "find 1" ∷ l ∷ []) is

stepped : (stage : FindStage) (said : List (List ℕ)) (line : List ℕ) → Says stage said
    → Goes (said ++ line ∷ []) (find_step stage line)
stepped Unread said line h = headed said line (bytes_eq line (codes "find 1")) refl h
stepped Begun said line h =
    gone said line (after_want line)
    (wanted line (numbers_after (codes "want") 3 (words_of line)) (line_is (codes "want") line 3)) h
stepped (Wanted want) said line h = ended want said line (bytes_eq line (codes "end")) refl h

followed : (input : List ℕ) (found : Found Want) (number : Option ℕ)
    → first_unskipped (1 + found.taken) found.behind ≡ number
    → Took (lines_of input) found (SaysAll found.value)
    → IfOk (unless_followed number found.value)
    (λ want. text_of (counting (lines_of input)) ≡ want_text want)
followed input found (Some number) is t = tt
followed input found None is t =
    ap text_of (none_behind (lines_of input) t.front found.behind (1 + found.taken) t.parts is)
    ∙ ap text_of t.says

whole : (input : List ℕ) (read : Result (Found Want) (At Rule))
    → IfOk read (λ found. Took (lines_of input) found (SaysAll found.value))
    → IfOk (alone read) (λ want. text_of (counting (lines_of input)) ≡ want_text want)
whole input (Ok found) t =
    followed input found (first_unskipped (1 + found.taken) found.behind) refl t
whole input (Err at) t = tt

pub read_is_text : ReadIsWantText
read_is_text input =
    whole input (part input)
    (took find_step Form Says SaysAll stepped (lines_of input) Unread 1 refl)

-- ---- refused

refused_behind : (input : List ℕ) (found : Found Want) (number : Option ℕ) (at : At Rule)
    → part input ≡ Ok found → first_unskipped (1 + found.taken) found.behind ≡ number
    → unless_followed number found.value ≡ Err at → IsRefusedAlone Form 1 (part input) at
refused_behind input found None at is there e = absurd cc
refused_behind input found (Some n) at is there e =
    followed_at Form 1 (part input) found at n is there cc

refused_by : (input : List ℕ) (read : Result (Found Want) (At Rule)) (at : At Rule)
    → part input ≡ read → alone read ≡ Err at → IsRefusedAlone Form 1 (part input) at
refused_by input (Ok found) at is e =
    refused_behind input found (first_unskipped (1 + found.taken) found.behind) at is refl e
refused_by input (Err other) at is e =
    let same : other ≡ at = cc in inl (is ∙ ap Err same)

pub refused_alone : WantIsRefusedAlone
refused_alone input at e = refused_by input (part input) at refl e
