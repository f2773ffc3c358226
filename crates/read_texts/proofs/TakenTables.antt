-- What is read as a table is the text of the table.
use Rattle.std.proofs.Common.{◌≡◌, ℕ, Bool, true, false, List, [], ◌∷◌, ◌++◌, length, map, Option}
use Rattle.std.proofs.Common.{Some}
use Rattle.std.proofs.Common.{None, refl, sym, ap, ◌∙◌, subst}
use Rattle.std.specs.Prelude.{IfOk, IfSome, ◌||◌, nat_le, nat_lt, if◌then◌else◌, codes}
use Rattle.std.specs.List.{list_any}
use Rattle.std.specs.Str.{bytes_eq}
use Rattle.std.proofs.lemmas.List.{map-append}
use Rattle.texts.specs.Lines.{words_of}
use Rattle.texts.specs.Shapes.{numbers_after}
use Rattle.texts.specs.Parts.{Next, goes, ends, refuses, goes_on}
use Rattle.texts.specs.Words.{text_of}
use Rattle.texts.proofs.Parts.{After, goes_on_keeps}
use Rattle.part_lines.proofs.ReadWords.{same_bytes, IsLineOf, line_is, behind_test, took_weaker}
use Rattle.part_lines.proofs.TakenLines.{took}
use Rattle.sync_types.specs.declared.answers.Rule.{Rule}
use Rattle.sync_types.specs.declared.answers.Rule.TheVariants.{Form, Limit, Node, Range, Overlap}
use Rattle.slot_table.specs.declared.lines.SlotLine.{SlotLine}
use Rattle.slot_table.specs.Tables.{meets}
use Rattle.slot_table.specs.SlotPart.{SlotsSoFar, no_lines, line_tested, line_in, with_line}
use Rattle.slot_table.specs.SlotPart.{slots_step, part_for}
use Rattle.read_texts.specs.ReadTables.{ReadIsTableText}
use Rattle.slot_table.specs.SlotTexts.{slot_text, slots_text}

-- what the lines so far say: nothing, or the first line and those of the table
abbrev SaysSoFar : (begun : Bool) → List SlotLine → List (List ℕ) → Type 0
SaysSoFar false lines said = (said ≡ []) × (lines ≡ [])
SaysSoFar true lines said = said ≡ codes "slots 1" ∷ map slot_text lines

abbrev Says : SlotsSoFar → List (List ℕ) → Type 0
Says s said = SaysSoFar s.begun s.lines said

abbrev SaysAll : List SlotLine → List (List ℕ) → Type 0
SaysAll lines said = said ≡ codes "slots 1" ∷ (map slot_text lines ++ codes "end" ∷ [])

abbrev Goes : (said : List (List ℕ)) → Next SlotsSoFar (List SlotLine) Rule → Type 0
Goes said next = After (λ s. Says s said) (λ lines. SaysAll lines said) next

-- a line that is read is that of its numbers
tested : (s : SlotsSoFar) (line : List ℕ) (numbers : Option (List ℕ))
    → IfSome numbers (IsLineOf (codes "slot") line)
    → IfOk (line_tested s numbers) (λ x. line ≡ slot_text x)
tested s line None is = tt
tested s line (Some []) is = tt
tested s line (Some (v ∷ [])) is = tt
tested s line (Some (v ∷ a ∷ [])) is = tt
tested s line (Some (v ∷ a ∷ b ∷ [])) is =
    let Is : SlotLine → Type 0 = λ x. line ≡ slot_text x in
    behind_test Is (nat_le 256 (length s.lines)) Limit _
    (behind_test Is (nat_le s.nodes v) Node _
    (behind_test Is (nat_lt b a || nat_le s.modulus b) Range _
    (behind_test Is (list_any (meets a b) s.lines) Overlap _ is)))
tested s line (Some (v ∷ a ∷ b ∷ c ∷ more)) is = tt

-- one more line of the table
one_more : (s : SlotsSoFar) (said : List (List ℕ)) (line : List ℕ) → s.begun ≡ true
    → SaysSoFar true s.lines said → (x : SlotLine) → line ≡ slot_text x
    → Says (with_line s x) (said ++ line ∷ [])
one_more s said line begun so_far x is =
    let more : SaysSoFar true (s.lines ++ x ∷ []) (said ++ line ∷ []) =
    ap (λ ls. ls ++ line ∷ []) so_far
    ∙ ap (λ l. codes "slots 1" ∷ (map slot_text s.lines ++ l ∷ [])) is
    ∙ ap (λ ls. codes "slots 1" ∷ ls) (sym (map-append slot_text s.lines (x ∷ []))) in
    subst (λ b. SaysSoFar b (s.lines ++ x ∷ []) (said ++ line ∷ [])) (sym begun) more

ended : (s : SlotsSoFar) (said : List (List ℕ)) (line : List ℕ) (is : Bool)
    → bytes_eq line (codes "end") ≡ is → s.begun ≡ true → SaysSoFar true s.lines said
    → Goes (said ++ line ∷ [])
    (if is then ends s.lines else goes_on (with_line s) (line_in s line))
ended s said line true is begun so_far =
    ap (λ ls. ls ++ line ∷ []) so_far
    ∙ ap (λ l. codes "slots 1" ∷ (map slot_text s.lines ++ l ∷ [])) (same_bytes _ _ is)
ended s said line false is begun so_far =
    goes_on_keeps (λ t. Says t (said ++ line ∷ [])) (λ lines. SaysAll lines (said ++ line ∷ []))
    (with_line s) (λ x. line ≡ slot_text x) (line_in s line)
    (tested s line (numbers_after (codes "slot") 3 (words_of line)) (line_is (codes "slot") line 3))
    (one_more s said line begun so_far)

headed : (s : SlotsSoFar) (said : List (List ℕ)) (line : List ℕ) (is : Bool)
    → bytes_eq line (codes "slots 1") ≡ is → SaysSoFar false s.lines said
    → Goes (said ++ line ∷ []) (if is then goes (record s { begun = true }) else refuses Form)
headed s said line false is none = tt
headed s said line true is none =
    ap (λ ls. ls ++ line ∷ []) none.0
    ∙ ap (λ l. l ∷ []) (same_bytes _ _ is)
    ∙ ap (λ ls. codes "slots 1" ∷ map slot_text ls) (sym none.1)

stepped : (s : SlotsSoFar) (said : List (List ℕ)) (line : List ℕ) (begun : Bool)
    → s.begun ≡ begun → SaysSoFar begun s.lines said
    → Goes (said ++ line ∷ []) (if begun
    then (if bytes_eq line (codes "end") then ends s.lines
    else goes_on (with_line s) (line_in s line))
    else (if bytes_eq line (codes "slots 1") then goes (record s { begun = true })
    else refuses Form))
stepped s said line true is so_far =
    ended s said line (bytes_eq line (codes "end")) refl is so_far
stepped s said line false is so_far =
    headed s said line (bytes_eq line (codes "slots 1")) refl so_far

-- the lines that count are those of the table
pub taken_tables : ReadIsTableText
taken_tables nodes modulus number lines =
    took_weaker lines SaysAll (λ v said. text_of said ≡ slots_text v) (λ v said is. ap text_of is)
    (part_for nodes modulus number lines)
    (took slots_step Form Says SaysAll
    (λ s said line so_far. stepped s said line s.begun refl so_far)
    lines (no_lines nodes modulus) number (refl, refl))
