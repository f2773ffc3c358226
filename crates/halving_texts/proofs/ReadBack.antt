-- The text of a plan is read as that plan.
use Rattle.std.proofs.Common.{◌≡◌, ℕ, ◌^◌, ◌≤◌, List, [], ◌∷◌, ◌++◌, length, Option, Some, None}
use Rattle.std.proofs.Common.{Result, refl, sym, ap, ◌∙◌, append_assoc, arith}
use Rattle.std.specs.Prelude.{codes, decimal}
use Rattle.std.proofs.lemmas.List.{append-nil}
use Rattle.std.proofs.lemmas.Fmt.{length-decimal-le}
use Rattle.texts.specs.Lines.{lines_of, words_of}
use Rattle.texts.specs.Shapes.{numbers_after}
use Rattle.texts.specs.Parts.{goes, ends, Found, At, with_skips, part_from}
use Rattle.texts.proofs.NumberWords.{printed_is_read}
use Rattle.texts.proofs.Printed.{joined, IsPlain, ArePlain, spaced_length, decimal_is_plain}
use Rattle.texts.proofs.Printed.{words_joined, counts, goes_behind, ends_there}
use Rattle.halving_plan.specs.declared.premises.HalvingPremise.{HalvingPremise}
use Rattle.halving_plan.specs.Plans.{HalvingNumbers, first_premise, IsAccepted}
use Rattle.halving_texts.specs.declared.premises.LinePremise.{LinePremise}
use Rattle.halving_texts.specs.declared.premises.LinePremise.TheVariants.{Form}
use Rattle.halving_texts.specs.declared.stages.HalvingStage.{HalvingStage}
use Rattle.halving_texts.specs.declared.stages.HalvingStage.TheVariants.{Unread, Begun, Stated}
use Rattle.halving_texts.specs.HalvingPart.{unless_fails, plan_by, goes_with, halving_step, alone}
use Rattle.halving_texts.specs.HalvingPart.{whole_halving_of}
use Rattle.halving_texts.specs.HalvingTexts.{halving_text, HalvingTextIsRead, HalvingTextIsWhole}
use Rattle.halving_texts.proofs.Accepted.{accepted_none}

-- how a part is read on
abbrev read_on : HalvingStage → (taken number : ℕ) → List ℕ
    → Result (Found HalvingNumbers) (At LinePremise)
read_on stage taken number text =
    part_from (with_skips halving_step Form) Form stage taken number (lines_of text)

-- ---- the lines as words

abbrev after_group : HalvingNumbers → List (List ℕ)
after_group plan = decimal plan.nodes ∷ decimal plan.faults ∷ decimal plan.modulus ∷ []

abbrev first_line : List ℕ
first_line = joined (codes "halving" ∷ codes "1" ∷ [])

abbrev group_line : HalvingNumbers → List ℕ
group_line plan = joined (codes "group" ∷ after_group plan)

lines_text : (plan : HalvingNumbers) (rest : List ℕ) → halving_text plan ++ rest
    ≡ first_line ++ 10 ∷ (group_line plan ++ 10 ∷ (joined (codes "end" ∷ []) ++ 10 ∷ rest))
lines_text plan rest = simp (append_assoc, append-nil)

-- a number of a plan may be printed, in 15 digits at most
small_plain : (n : ℕ) → n ≤ 2 ^ 40 → IsPlain (decimal n)
small_plain n le = decimal_is_plain n (omega arith)

small_short : (n : ℕ) → n ≤ 2 ^ 40 → length (decimal n) ≤ 15
small_short n le = length-decimal-le 15 n (omega arith) (omega arith) (omega arith)

first_plain : ArePlain (codes "halving" ∷ codes "1" ∷ [])
first_plain = (
  record { some = omega arith; above = refl },
  (record { some = omega arith; above = refl }, tt),
)

end_plain : ArePlain (codes "end" ∷ [])
end_plain = (record { some = omega arith; above = refl }, tt)

-- ---- the lines are read

-- numbers that are small enough for a plan
record AreSmall (plan : HalvingNumbers) : Type 0 where
  nodes : plan.nodes ≤ 2 ^ 40
  faults : plan.faults ≤ 2 ^ 40
  modulus : plan.modulus ≤ 2 ^ 40

are_small : (plan : HalvingNumbers) → IsAccepted plan → AreSmall plan
are_small plan accepted =
    let most = accepted.most_nodes in
    let quorum = accepted.quorum in
    record {
      nodes = omega (arith, most);
      faults = omega (arith, most, quorum);
      modulus = accepted.most_modulus;
    }

module _ (plan : HalvingNumbers) (small : AreSmall plan) where
  group_plain : ArePlain (codes "group" ∷ after_group plan)
  group_plain = (
    record { some = omega arith; above = refl },
    (
      small_plain plan.nodes small.nodes,
      (
        small_plain plan.faults small.faults,
        (small_plain plan.modulus small.modulus, tt),
      ),
    ),
  )

  group_short : spaced_length (codes "group" ∷ after_group plan) ≤ 4096
  group_short = omega (
    arith,
    small_short plan.nodes small.nodes,
    small_short plan.faults small.faults,
    small_short plan.modulus small.modulus,
  )

  -- the numbers of a plan are read of its line
  group_numbers : numbers_after (codes "group") 3 (words_of (group_line plan))
      ≡ Some (plan.nodes ∷ plan.faults ∷ plan.modulus ∷ [])
  group_numbers =
      let words = words_joined (codes "group") (after_group plan) group_plain in
      ap (numbers_after (codes "group") 3) words
      ∙ rw (
        printed_is_read plan.nodes (omega (arith, small.nodes)),
        printed_is_read plan.faults (omega (arith, small.faults)),
        printed_is_read plan.modulus (omega (arith, small.modulus)),
      ) refl

  group_goes : first_premise plan ≡ None
      → halving_step Begun (group_line plan) ≡ goes (Stated plan)
  group_goes none =
      ap (λ (ns : Option (List ℕ)). goes_with (plan_by ns)) group_numbers
      ∙ ap (λ (p : Option HalvingPremise). goes_with (unless_fails p plan)) none

-- the text is read at the beginning of any text
pub text_is_read : HalvingTextIsRead
text_is_read plan rest accepted =
    let small = are_small plan accepted in
    let third = joined (codes "end" ∷ []) ++ 10 ∷ rest in
    let second = group_line plan ++ 10 ∷ third in
    ap (read_on Unread 0 1) (lines_text plan rest)
    ∙ goes_behind halving_step Form (codes "halving") (codes "1" ∷ []) second first_plain
    (omega arith) (counts first_line (omega arith) refl) Unread 0 1 Begun refl
    ∙ goes_behind halving_step Form (codes "group") (after_group plan) third
    (group_plain plan small) (group_short plan small)
    (counts (group_line plan) (omega arith) refl) Begun 1 2 (Stated plan)
    (group_goes plan small (accepted_none plan accepted))
    ∙ ends_there halving_step Form (codes "end") [] rest end_plain (omega arith)
    (counts (joined (codes "end" ∷ [])) (omega arith) refl) (Stated plan) 2 3 plan refl

-- and alone
pub text_is_whole : HalvingTextIsWhole
text_is_whole plan accepted =
    ap whole_halving_of (sym (append-nil (halving_text plan)))
    ∙ ap alone (text_is_read plan [] accepted)
