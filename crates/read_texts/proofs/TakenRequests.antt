-- What is read as requests is their text.
use Rattle.std.proofs.Common.{◌≡◌, ℕ, Bool, true, false, List, [], ◌∷◌, ◌++◌, length, map, Option}
use Rattle.std.proofs.Common.{Some, None, refl, sym, ap, ◌∙◌, subst}
use Rattle.std.specs.Prelude.{IfOk, IfSome, nat_le, nat_lt, if◌then◌else◌, codes}
use Rattle.std.specs.Str.{bytes_eq}
use Rattle.std.proofs.lemmas.List.{map-append}
use Rattle.texts.specs.Lines.{words_of}
use Rattle.texts.specs.Shapes.{numbers_after}
use Rattle.texts.specs.Parts.{Next, ends, goes_on}
use Rattle.texts.specs.Words.{text_of}
use Rattle.texts.proofs.Parts.{After, goes_on_keeps}
use Rattle.part_lines.proofs.ReadWords.{same_bytes, IsLineOf, line_is, behind_test, took_weaker}
use Rattle.part_lines.proofs.TakenLines.{took}
use Rattle.sync_types.specs.declared.answers.Rule.{Rule}
use Rattle.sync_types.specs.declared.answers.Rule.TheVariants.{Form, Limit, Node, Range}
use Rattle.consensus_layer.specs.PartLines.{head_tested}
use Rattle.read_texts.proofs.SaidLines.{head_is}
use Rattle.firing.specs.declared.requests.Request.{Request}
use Rattle.firing.specs.FirePart.{FireSoFar, nothing_read_over, request_tested, request_in}
use Rattle.firing.specs.FirePart.{with_head, with_request, fire_step, part_over}
use Rattle.read_texts.specs.ReadRequests.{ReadIsRequestText}
use Rattle.firing.specs.RequestTexts.{request_text, requests_text}

-- what the lines so far say: nothing, or the first line and those of the requests
abbrev SaysSoFar : (begun : Bool) → List Request → List (List ℕ) → Type 0
SaysSoFar false requests said = (said ≡ []) × (requests ≡ [])
SaysSoFar true requests said = said ≡ codes "fire 1" ∷ map request_text requests

abbrev Says : FireSoFar → List (List ℕ) → Type 0
Says s said = SaysSoFar s.begun s.requests said

abbrev SaysAll : List Request → List (List ℕ) → Type 0
SaysAll requests said = said ≡ codes "fire 1" ∷ (map request_text requests ++ codes "end" ∷ [])

abbrev Goes : List (List ℕ) → Next FireSoFar (List Request) Rule → Type 0
Goes said next = After (λ s. Says s said) (λ requests. SaysAll requests said) next

-- a line that is read is that of its numbers
tested : (s : FireSoFar) (line : List ℕ) (numbers : Option (List ℕ))
    → IfSome numbers (IsLineOf (codes "request") line)
    → IfOk (request_tested s numbers) (λ x. line ≡ request_text x)
tested s line None is = tt
tested s line (Some []) is = tt
tested s line (Some (v ∷ [])) is = tt
tested s line (Some (v ∷ a ∷ [])) is = tt
tested s line (Some (v ∷ a ∷ b ∷ [])) is =
    let Is : Request → Type 0 = λ x. line ≡ request_text x in
    behind_test Is (nat_le 256 (length s.requests)) Limit _
    (behind_test Is (nat_le s.nodes v) Node _ (behind_test Is (nat_lt b a) Range _ is))
tested s line (Some (v ∷ a ∷ b ∷ c ∷ more)) is = tt

one_more : (s : FireSoFar) (said : List (List ℕ)) (line : List ℕ) → s.begun ≡ true
    → SaysSoFar true s.requests said → (x : Request) → line ≡ request_text x
    → Says (with_request s x) (said ++ line ∷ [])
one_more s said line begun so_far x is =
    let more : SaysSoFar true (s.requests ++ x ∷ []) (said ++ line ∷ []) =
    ap (λ ls. ls ++ line ∷ []) so_far
    ∙ ap (λ l. codes "fire 1" ∷ (map request_text s.requests ++ l ∷ [])) is
    ∙ ap (λ ls. codes "fire 1" ∷ ls) (sym (map-append request_text s.requests (x ∷ []))) in
    subst (λ b. SaysSoFar b (s.requests ++ x ∷ []) (said ++ line ∷ [])) (sym begun) more

ended : (s : FireSoFar) (said : List (List ℕ)) (line : List ℕ) (is : Bool)
    → bytes_eq line (codes "end") ≡ is → s.begun ≡ true → SaysSoFar true s.requests said
    → Goes (said ++ line ∷ [])
    (if is then ends s.requests else goes_on (with_request s) (request_in s line))
ended s said line true is begun so_far =
    ap (λ ls. ls ++ line ∷ []) so_far
    ∙ ap (λ l. codes "fire 1" ∷ (map request_text s.requests ++ l ∷ []))
    (same_bytes line (codes "end") is)
ended s said line false is begun so_far =
    goes_on_keeps (λ t. Says t (said ++ line ∷ [])) (λ xs. SaysAll xs (said ++ line ∷ []))
    (with_request s) (λ x. line ≡ request_text x) (request_in s line)
    (tested s line (numbers_after (codes "request") 3 (words_of line))
    (line_is (codes "request") line 3))
    (one_more s said line begun so_far)

stepped : (s : FireSoFar) (said : List (List ℕ)) (line : List ℕ) (begun : Bool)
    → s.begun ≡ begun → SaysSoFar begun s.requests said
    → Goes (said ++ line ∷ []) (if begun
    then (if bytes_eq line (codes "end") then ends s.requests
    else goes_on (with_request s) (request_in s line))
    else goes_on (λ _. with_head s) (head_tested (codes "fire 1") s.whole line))
stepped s said line true is so_far =
    ended s said line (bytes_eq line (codes "end")) refl is so_far
stepped s said line false is none =
    goes_on_keeps (λ t. Says t (said ++ line ∷ [])) (λ xs. SaysAll xs (said ++ line ∷ []))
    (λ _. with_head s) (λ _. line ≡ codes "fire 1")
    (head_tested (codes "fire 1") s.whole line) (head_is (codes "fire 1") s.whole line)
    (λ _ head. ap (λ ls. ls ++ line ∷ []) none.0
    ∙ ap (λ l. l ∷ []) head
    ∙ ap (λ xs. codes "fire 1" ∷ map request_text xs) (sym none.1))

-- the lines that count are those of the requests
pub taken_requests : ReadIsRequestText
taken_requests numbers number lines =
    took_weaker lines SaysAll (λ xs said. text_of said ≡ requests_text xs)
    (λ xs said is. ap text_of is) (part_over numbers number lines)
    (took fire_step Form Says SaysAll (λ s said line h. stepped s said line s.begun refl h) lines
    (nothing_read_over numbers) number (refl, refl))
