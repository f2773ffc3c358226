-- The text of a halving plan, which a reader of halving parts reads back.
use Rattle.std.specs.Prelude.{◌≡◌, ℕ, List, [], ◌∷◌, ◌++◌, Ok, codes, decimal}
use Rattle.std.specs.List.{concat}
use Rattle.texts.specs.Lines.{lines_of}
use Rattle.texts.specs.Parts.{Found}
use Rattle.halving_plan.specs.Plans.{HalvingNumbers, IsAccepted}
use Rattle.halving_texts.specs.HalvingPart.{halving_of, whole_halving_of}

abbrev pub halving_text : HalvingNumbers → List ℕ
halving_text plan = concat (
    codes "halving 1\n"
    ∷ codes "group " ∷ decimal plan.nodes
    ∷ codes " " ∷ decimal plan.faults
    ∷ codes " " ∷ decimal plan.modulus
    ∷ codes "\n"
    ∷ codes "end\n" ∷ [])

-- The text of an accepted plan is read as that plan, at the beginning of any text,
abbrev pub HalvingTextIsRead : Type 0
HalvingTextIsRead =
    (plan : HalvingNumbers) (rest : List ℕ) → IsAccepted plan
    → halving_of (halving_text plan ++ rest)
    ≡ Ok (record { value = plan; taken = 3; behind = lines_of rest })

-- and alone.
abbrev pub HalvingTextIsWhole : Type 0
HalvingTextIsWhole =
    (plan : HalvingNumbers) → IsAccepted plan → whole_halving_of (halving_text plan) ≡ Ok plan

-- The plan of a text that is read is accepted, and what is written of it is read as that plan.
abbrev pub AcceptedTextsAreRewritten : Type 0
AcceptedTextsAreRewritten =
    (text : List ℕ) (found : Found HalvingNumbers) → halving_of text ≡ Ok found
    → IsAccepted found.value × (whole_halving_of (halving_text found.value) ≡ Ok found.value)
