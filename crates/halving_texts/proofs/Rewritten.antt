-- The plan of a text that is read is accepted, so its own text is read as that plan.
use Rattle.std.proofs.Common.{◌≡◌, ℕ, List, [], ◌∷◌, Option, Some, None, Result, Ok, refl, subst}
use Rattle.std.specs.Prelude.{⊤, IfOk, codes}
use Rattle.std.specs.Str.{bytes_eq}
use Rattle.texts.specs.Lines.{lines_of, words_of}
use Rattle.texts.specs.Shapes.{numbers_after}
use Rattle.texts.specs.Parts.{goes, ends, refuses, Found, At, with_skips}
use Rattle.texts.proofs.Parts.{After, after_if, skips_keep, part_keeps}
use Rattle.halving_plan.specs.declared.premises.HalvingPremise.{HalvingPremise}
use Rattle.halving_plan.specs.Plans.{HalvingNumbers, first_premise, IsAccepted}
use Rattle.halving_texts.specs.declared.premises.LinePremise.{LinePremise}
use Rattle.halving_texts.specs.declared.premises.LinePremise.TheVariants.{Form}
use Rattle.halving_texts.specs.declared.stages.HalvingStage.{HalvingStage}
use Rattle.halving_texts.specs.declared.stages.HalvingStage.TheVariants.{Unread, Begun, Stated}
use Rattle.halving_texts.specs.HalvingPart.{unless_fails, plan_by, goes_with, halving_step, halving_of}
use Rattle.halving_texts.specs.HalvingTexts.{AcceptedTextsAreRewritten}
use Rattle.halving_texts.proofs.Accepted.{none_accepted}
use Rattle.halving_texts.proofs.ReadBack.{text_is_whole}

-- the plan so far is accepted
abbrev IsSound : HalvingStage → Type 0
IsSound Unread = ⊤
IsSound Begun = ⊤
IsSound (Stated plan) = IsAccepted plan

stated : (plan : HalvingNumbers) (premise : Option HalvingPremise)
    → (premise ≡ None → IsAccepted plan)
    → After IsSound IsAccepted (goes_with (unless_fails premise plan))
stated plan None accepted = accepted refl
stated plan (Some premise) accepted = tt

group_kept : (numbers : Option (List ℕ)) → After IsSound IsAccepted (goes_with (plan_by numbers))
group_kept None = tt
group_kept (Some []) = tt
group_kept (Some (n ∷ [])) = tt
group_kept (Some (n ∷ f ∷ [])) = tt
group_kept (Some (n ∷ f ∷ c ∷ [])) =
    let plan : HalvingNumbers = record { nodes = n; faults = f; modulus = c } in
    stated plan (first_premise plan) (none_accepted plan)
group_kept (Some (n ∷ f ∷ c ∷ m ∷ numbers)) = tt

line_kept : (stage : HalvingStage) (line : List ℕ) → IsSound stage
    → After IsSound IsAccepted (halving_step stage line)
line_kept Unread line p =
    after_if IsSound IsAccepted (bytes_eq line (codes "halving 1")) (goes Begun) (refuses Form) tt tt
line_kept Begun line p = group_kept (numbers_after (codes "group") 3 (words_of line))
line_kept (Stated plan) line p =
    after_if IsSound IsAccepted (bytes_eq line (codes "end")) (ends plan) (refuses Form) p tt

kept : (stage : HalvingStage) (line : List ℕ) → IsSound stage
    → After IsSound IsAccepted (with_skips halving_step Form stage line)
kept stage line p =
    skips_keep halving_step Form IsSound IsAccepted stage line p (line_kept stage line p)

-- the plan of a part is accepted
pub read_is_accepted : (text : List ℕ) → IfOk (halving_of text) (λ found. IsAccepted found.value)
read_is_accepted text =
    part_keeps (with_skips halving_step Form) Form IsSound IsAccepted kept (lines_of text)
    Unread 0 1 tt

pub texts_are_rewritten : AcceptedTextsAreRewritten
texts_are_rewritten text found read =
    let accepted : IsAccepted found.value =
    subst (λ (r : Result (Found HalvingNumbers) (At LinePremise)).
    IfOk r (λ x. IsAccepted x.value)) read (read_is_accepted text) in
    (accepted, text_is_whole found.value accepted)
