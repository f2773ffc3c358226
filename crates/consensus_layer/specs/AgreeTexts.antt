-- The text of an agree part, which is read back.
use Rattle.std.specs.Prelude.{◌≡◌, ℕ, List, [], ◌∷◌, ◌++◌, map, Ok, codes, decimal}
use Rattle.texts.specs.Lines.{lines_of}
use Rattle.texts.specs.Words.{joined, text_of}
use Rattle.construction.specs.Plans.{Plan}
use Rattle.plan_numbers.specs.Premises.{IsAccepted}
use Rattle.layer_laws.specs.Numbers.{Numbers, AreNumbers, numbers_of}
use Rattle.consensus_layer.specs.AgreeContent.{AgreeContent}
use Rattle.consensus_layer.specs.AgreePart.{part_over, IsForNumbers}

abbrev pub values_line : AgreeContent → List ℕ
values_line said = joined (codes "values" ∷ decimal said.values ∷ [])

abbrev pub inputs_line : AgreeContent → List ℕ
inputs_line said = joined (codes "inputs" ∷ map decimal said.inputs)

-- the part that says values and inputs
abbrev pub agree_text : AgreeContent → List ℕ
agree_text said =
    text_of (codes "agree 1" ∷ values_line said ∷ inputs_line said ∷ codes "end" ∷ [])

-- The text of what is said for a counter is read as this, whatever text follows.
abbrev pub IsReadBack : Numbers → Type 0
IsReadBack numbers = (said : AgreeContent) → IsForNumbers numbers said
    → (number : ℕ) (rest : List ℕ)
    → part_over numbers number (lines_of (agree_text said ++ rest))
    ≡ Ok (record { value = said; taken = 4; behind = lines_of rest })

abbrev pub AgreeTextIsReadOver : Type 0
AgreeTextIsReadOver = (numbers : Numbers) → AreNumbers numbers → IsReadBack numbers

-- So is that for an accepted plan.
abbrev pub AgreeTextIsRead : Type 0
AgreeTextIsRead = (plan : Plan) → IsAccepted plan → IsReadBack (numbers_of plan)
