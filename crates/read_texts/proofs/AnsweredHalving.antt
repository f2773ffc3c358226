-- What the text of any halving plan is answered.
use Rattle.std.proofs.Common.{◌≡◌, ℕ, ◌+◌, ◌≤◌, Bool, true, false, List, [], ◌∷◌, ◌++◌, length}
use Rattle.std.proofs.Common.{Option}
use Rattle.std.proofs.Common.{Some, None, Result, Ok, Err, refl, ap, ◌∙◌, append_assoc, arith}
use Rattle.std.proofs.lemmas.Bool.{le-ltb}
use Rattle.std.proofs.lemmas.List.{append-nil}
use Rattle.std.specs.Prelude.{codes, decimal, nat_lt, if◌then◌else◌}
use Rattle.texts.specs.Lines.{lines_of, words_of, is_well_parted}
use Rattle.texts.specs.Shapes.{numbers_after}
use Rattle.texts.specs.Parts.{Next, goes, ends, refuses, is_skipped, Found, At, with_skips}
use Rattle.texts.specs.Parts.{part_from}
use Rattle.texts.specs.Words.{joined}
use Rattle.texts.proofs.NumberLines.{number_plain, number_short, number_read, numbers_back}
use Rattle.texts.proofs.NumberLines.{AreShort}
use Rattle.texts.proofs.NumberLines.{line_plain, numbers_short}
use Rattle.texts.proofs.Printed.{IsPlain, ArePlain, spaced_length, counts, goes_behind, ends_there}
use Rattle.texts.proofs.Printed.{line_joined, joined_well_parted, length_joined}
use Rattle.halving_plan.specs.Plans.{HalvingNumbers, first_premise}
use Rattle.halving_plan.specs.declared.premises.HalvingPremise.{HalvingPremise}
use Rattle.halving_texts.specs.declared.premises.LinePremise.{LinePremise}
use Rattle.halving_texts.specs.declared.premises.LinePremise.TheVariants as premise
use Rattle.halving_texts.specs.declared.stages.HalvingStage.{HalvingStage}
use Rattle.halving_texts.specs.declared.stages.HalvingStage.TheVariants.{Unread, Begun, Stated}
use Rattle.halving_texts.specs.HalvingPart.{unless_fails, plan_by, goes_with, halving_step}
use Rattle.halving_texts.specs.HalvingTexts.{halving_text}
use Rattle.read_texts.specs.ReadHalving.{CanBeSaid, unless_failing, HalvingTextIsAnswered}

-- how the part is read on
abbrev read_on : HalvingStage → (taken number : ℕ) → List ℕ
    → Result (Found HalvingNumbers) (At LinePremise)
read_on stage taken number text =
    part_from (with_skips halving_step premise.Form) premise.Form stage taken number (lines_of text)

chosen : {X : Type 0} (long skipped parted : Bool) (a b c : X)
    → long ≡ false → skipped ≡ false → parted ≡ true
    → (if long then a else if skipped then b else if parted then c else a) ≡ c
chosen long skipped parted a b c p q r = rw (p, q, r) refl

word_plain : IsPlain (codes "group")
word_plain = record { some = omega arith; above = refl }

first_plain : ArePlain (codes "halving" ∷ codes "1" ∷ [])
first_plain = (
  record { some = omega arith; above = refl },
  (record { some = omega arith; above = refl }, tt),
)

end_plain : ArePlain (codes "end" ∷ [])
end_plain = (record { some = omega arith; above = refl }, tt)

module _ (plan : HalvingNumbers) (rest : List ℕ) (said : CanBeSaid plan) where
  abbrev numbers : List ℕ
  numbers = plan.nodes ∷ plan.faults ∷ plan.modulus ∷ []

  abbrev words : List (List ℕ)
  words = decimal plan.nodes ∷ decimal plan.faults ∷ decimal plan.modulus ∷ []

  abbrev line : List ℕ
  line = joined (codes "group" ∷ words)

  abbrev end : List ℕ
  end = joined (codes "end" ∷ []) ++ 10 ∷ rest

  text_is : halving_text plan ++ rest
      ≡ joined (codes "halving" ∷ codes "1" ∷ []) ++ 10 ∷ (line ++ 10 ∷ end)
  text_is = simp (append_assoc, append-nil)

  short : AreShort numbers
  short = (said.nodes, (said.faults, (said.modulus, tt)))

  plain : ArePlain (codes "group" ∷ words)
  plain = line_plain (codes "group") word_plain numbers short

  room : spaced_length (codes "group" ∷ words) ≤ 4096
  room = omega (arith, numbers_short numbers short)

  unskipped : is_skipped line ≡ false
  unskipped = counts line (omega arith) refl

  steps : halving_step Begun line ≡ goes_with (unless_fails (first_premise plan) plan)
  steps =
      ap (λ (ns : Option (List ℕ)). goes_with (plan_by ns))
      (numbers_back (codes "group") word_plain numbers short)

  steps_there : with_skips halving_step premise.Form Begun line ≡ halving_step Begun line
  steps_there =
      chosen (nat_lt 4096 (length line)) (is_skipped line) (is_well_parted line)
      (refuses premise.Form) (goes Begun) (halving_step Begun line)
      (le-ltb 4096 (length line) (omega (arith, room, length_joined (codes "group" ∷ words))))
      unskipped (joined_well_parted (codes "group") words plain)

  -- the second line, and what stands behind it
  second : (found : Option HalvingPremise) → first_premise plan ≡ found
      → read_on Begun 1 2 (line ++ 10 ∷ end)
      ≡ unless_failing found (record { value = plan; taken = 3; behind = lines_of rest })
  second None is =
      goes_behind halving_step premise.Form (codes "group") words end plain room unskipped Begun 1 2
      (Stated plan)
      (steps ∙ ap (λ (p : Option HalvingPremise). goes_with (unless_fails p plan)) is)
      ∙ ends_there halving_step premise.Form (codes "end") [] rest end_plain (omega arith) refl
      (Stated plan) 2 3 plan refl
  second (Some p) is =
      ap (part_from (with_skips halving_step premise.Form) premise.Form Begun 1 2)
      (line_joined (codes "group" ∷ words) end plain)
      ∙ ap (λ (next : Next HalvingStage HalvingNumbers LinePremise).
      elim next as (λ _. Result (Found HalvingNumbers) (At LinePremise)) [
        | goes t ↦ read_on t 2 3 end
        | ends v ↦ Ok (record { value = v; taken = 2; behind = lines_of end })
        | refuses r ↦ Err (record { line = 2; rule = r })
      ]) (steps_there ∙ steps
      ∙ ap (λ (p : Option HalvingPremise). goes_with (unless_fails p plan)) is)

  answered : read_on Unread 0 1 (halving_text plan ++ rest)
      ≡ unless_failing (first_premise plan)
      (record { value = plan; taken = 3; behind = lines_of rest })
  answered =
      ap (read_on Unread 0 1) text_is
      ∙ goes_behind halving_step premise.Form (codes "halving") (codes "1" ∷ [])
      (line ++ 10 ∷ end) first_plain (omega arith) refl Unread 0 1 Begun refl
      ∙ second (first_premise plan) refl

pub text_is_answered : HalvingTextIsAnswered
text_is_answered plan rest said = answered plan rest said
