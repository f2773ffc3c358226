-- Lines that are turned one after the other.
use Rattle.std.proofs.Common.{◌≡◌, ℕ, false, cond, not, List, [], ◌∷◌, ◌++◌, Result, Ok}
use Rattle.std.proofs.Common.{Err, refl, sym, ap, ◌∙◌, append_assoc}
use Rattle.state_codec.specs.Shapes.{Shape}
use Rattle.texts.specs.Parts.{is_skipped}
use Rattle.texts.specs.Words.{ended}
use Rattle.states.specs.Puts.{put_after}
use Rattle.states.specs.Turned.{line_turned, onto_text, lines_turned, counting_lines}
use Rattle.states.specs.Turned.{states_turned}
use Rattle.states.specs.declared.faults.Fault.{Fault}
use Rattle.states.specs.declared.reasons.StateReason.{StateReason}

-- the text so far, if a result is one
text_in : {R : Type 0} → Result (List ℕ) R → List ℕ
text_in (Ok text) = text
text_in (Err why) = []

-- a line that was turned, and its newline, are before what is turned of the rest
pub line_put : (out new : List ℕ) (line : ℕ) (turned : Result (List ℕ) Fault)
    (rest : Result (List ℕ) StateReason) → put_after out turned ≡ Ok new
    → put_after (new ++ 10 ∷ []) rest ≡ put_after out (onto_text line turned rest)
unfolding text_in
line_put out new line (Err why) rest is = absurd cc
line_put out new line (Ok text) (Err why) is = refl
line_put out new line (Ok text) (Ok rest) is =
    ap (λ front. Ok (front ++ 10 ∷ [] ++ rest)) (sym (ap text_in is))
    ∙ ap (λ front. Ok (front ++ rest)) (append_assoc out text (10 ∷ []))
    ∙ ap Ok (append_assoc out (ended text) rest)

-- a line that counts is turned
pub next_turned : (shape : Shape) (number : ℕ) (line : List ℕ) (items : List (ℕ × List ℕ))
    → is_skipped line ≡ false
    → states_turned shape 0 ((number, line) ∷ items)
    ≡ onto_text number (line_turned shape line) (states_turned shape 0 items)
next_turned shape number line items is =
    ap (λ skipped. lines_turned shape
    (cond (not skipped) ((number, line) ∷ counting_lines items) (counting_lines items))) is
