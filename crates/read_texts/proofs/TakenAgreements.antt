-- What is read of consensus is its text.
use Rattle.std.proofs.Common.{◌≡◌, ℕ, Bool, true, false, List, [], ◌∷◌, ◌++◌, length, map, Option}
use Rattle.std.proofs.Common.{Some, None, refl, ap, ◌∙◌}
use Rattle.std.specs.Prelude.{IfOk, IfSome, ◌==◌, nat_lt, not, if◌then◌else◌, codes, decimal}
use Rattle.std.specs.List.{list_all}
use Rattle.std.specs.Str.{bytes_eq}
use Rattle.texts.specs.Lines.{words_of}
use Rattle.texts.specs.Shapes.{all_numbers_after}
use Rattle.texts.specs.Parts.{Next, ends, refuses}
use Rattle.texts.specs.Words.{joined, text_of}
use Rattle.texts.proofs.Parts.{After, goes_on_keeps}
use Rattle.part_lines.proofs.ReadWords.{same_bytes, IsLineOf, all_line_is, behind_test, took_weaker}
use Rattle.part_lines.proofs.TakenLines.{took}
use Rattle.sync_types.specs.declared.answers.Rule.{Rule}
use Rattle.sync_types.specs.declared.answers.Rule.TheVariants.{Form, Range}
use Rattle.consensus_layer.specs.AgreeContent.{AgreeContent}
use Rattle.consensus_layer.specs.AgreePart.{AgreeSoFar, nothing_read_over, inputs_tested}
use Rattle.consensus_layer.specs.AgreePart.{inputs_in, at_stage, with_inputs, step_at, agree_step}
use Rattle.consensus_layer.specs.AgreePart.{part_over}
use Rattle.consensus_layer.specs.AgreeTexts.{values_line, inputs_line, agree_text}
use Rattle.read_texts.specs.ReadAgreements.{ReadIsAgreeText}
use Rattle.consensus_layer.specs.PartLines.{head_tested, number_within}
use Rattle.consensus_layer.specs.declared.agree_lines.AgreeStage.{AgreeStage}
use Rattle.consensus_layer.specs.declared.agree_lines.AgreeStage.TheVariants.{Unread, Begun, Valued}
use Rattle.consensus_layer.specs.declared.agree_lines.AgreeStage.TheVariants.{Given}
use Rattle.read_texts.proofs.SaidLines.{head_is, number_is}

abbrev line_of_values : ℕ → List ℕ
line_of_values values = joined (codes "values" ∷ decimal values ∷ [])

abbrev line_of_inputs : List ℕ → List ℕ
line_of_inputs inputs = joined (codes "inputs" ∷ map decimal inputs)

-- what the lines of a stage say
abbrev SaysAt : AgreeStage → (inputs : List ℕ) → List (List ℕ) → Type 0
SaysAt Unread inputs said = said ≡ []
SaysAt Begun inputs said = said ≡ codes "agree 1" ∷ []
SaysAt (Valued values) inputs said = said ≡ codes "agree 1" ∷ line_of_values values ∷ []
SaysAt (Given values) inputs said =
    said ≡ codes "agree 1" ∷ line_of_values values ∷ line_of_inputs inputs ∷ []

abbrev Says : AgreeSoFar → List (List ℕ) → Type 0
Says s said = SaysAt s.stage s.inputs said

abbrev SaysAll : AgreeContent → List (List ℕ) → Type 0
SaysAll content said =
    said ≡ codes "agree 1" ∷ values_line content ∷ inputs_line content ∷ codes "end" ∷ []

abbrev Goes : List (List ℕ) → Next AgreeSoFar AgreeContent Rule → Type 0
Goes said next = After (λ s. Says s said) (λ content. SaysAll content said) next

tested : (values nodes : ℕ) (line : List ℕ) (numbers : Option (List ℕ))
    → IfSome numbers (IsLineOf (codes "inputs") line)
    → IfOk (inputs_tested values nodes numbers) (λ inputs. line ≡ line_of_inputs inputs)
tested values nodes line None is = tt
tested values nodes line (Some inputs) is =
    let Is : List ℕ → Type 0 = λ inputs. line ≡ line_of_inputs inputs in
    behind_test Is (not (length inputs == nodes)) Form _
    (behind_test Is (not (list_all (λ a. nat_lt a values) inputs)) Range _ is)

ended : (s : AgreeSoFar) (values : ℕ) (said : List (List ℕ)) (line : List ℕ) (is : Bool)
    → bytes_eq line (codes "end") ≡ is → SaysAt (Given values) s.inputs said
    → Goes (said ++ line ∷ [])
    (if is then ends (record { values = values; inputs = s.inputs }) else refuses Form)
ended s values said line false is h = tt
ended s values said line true is h =
    ap (λ ls. ls ++ line ∷ []) h
    ∙ ap (λ l. codes "agree 1" ∷ line_of_values values ∷ line_of_inputs s.inputs ∷ l ∷ [])
    (same_bytes line (codes "end") is)

stepped : (stage : AgreeStage) (s : AgreeSoFar) (said : List (List ℕ)) (line : List ℕ)
    → SaysAt stage s.inputs said → Goes (said ++ line ∷ []) (step_at stage s line)
stepped Unread s said line h =
    goes_on_keeps (λ t. Says t (said ++ line ∷ [])) (λ c. SaysAll c (said ++ line ∷ []))
    (λ _. at_stage s Begun) (λ _. line ≡ codes "agree 1")
    (head_tested (codes "agree 1") s.whole line) (head_is (codes "agree 1") s.whole line)
    (λ _ is. ap (λ ls. ls ++ line ∷ []) h ∙ ap (λ l. l ∷ []) is)
stepped Begun s said line h =
    goes_on_keeps (λ t. Says t (said ++ line ∷ [])) (λ c. SaysAll c (said ++ line ∷ []))
    (λ values. at_stage s (Valued values)) (λ values. line ≡ line_of_values values)
    (number_within (codes "values") 2 65536 line) (number_is (codes "values") 2 65536 line)
    (λ values is. ap (λ ls. ls ++ line ∷ []) h ∙ ap (λ l. codes "agree 1" ∷ l ∷ []) is)
stepped (Valued values) s said line h =
    goes_on_keeps (λ t. Says t (said ++ line ∷ [])) (λ c. SaysAll c (said ++ line ∷ []))
    (with_inputs values s) (λ inputs. line ≡ line_of_inputs inputs)
    (inputs_in values s.nodes line)
    (tested values s.nodes line (all_numbers_after (codes "inputs") (words_of line))
    (all_line_is (codes "inputs") line))
    (λ inputs is. ap (λ ls. ls ++ line ∷ []) h
    ∙ ap (λ l. codes "agree 1" ∷ line_of_values values ∷ l ∷ []) is)
stepped (Given values) s said line h =
    ended s values said line (bytes_eq line (codes "end")) refl h

-- the lines that count are those of the text
pub taken_agreements : ReadIsAgreeText
taken_agreements numbers number lines =
    took_weaker lines SaysAll (λ c said. text_of said ≡ agree_text c) (λ c said is. ap text_of is)
    (part_over numbers number lines)
    (took agree_step Form Says SaysAll (λ s said line h. stepped s.stage s said line h) lines
    (nothing_read_over numbers) number refl)
