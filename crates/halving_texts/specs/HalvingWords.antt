-- How a node of a halving plan is read, and the line that refuses its plan.
use Rattle.std.specs.Prelude.{ℕ, List, [], ◌∷◌, codes, decimal}
use Rattle.std.specs.List.{concat}
use Rattle.node_words.specs.Constructions.{Words}
use Rattle.halving_plan.specs.Plans.{HalvingNumbers}
use Rattle.halving_plan.specs.Laws.{machine_in}
use Rattle.halving_texts.specs.declared.premises.LinePremise.{LinePremise}
use Rattle.halving_texts.specs.declared.stages.HalvingStage.{HalvingStage}
use Rattle.halving_texts.specs.HalvingRefusals.{premise_word}
use Rattle.halving_texts.specs.HalvingShapes.{halving_part}

-- the line of a refusal
abbrev pub refusal_line : (line : ℕ) (premise : LinePremise) → List ℕ
refusal_line line premise = concat (
    codes "refused halving line " ∷ decimal line
    ∷ codes " premise " ∷ premise_word premise
    ∷ codes "\n" ∷ [])

-- how a halving plan is read, which machine it is, and the line that refuses a line of it
abbrev pub halving_words : Words HalvingStage HalvingNumbers LinePremise
halving_words = record { part = halving_part; machine = machine_in; refusal = refusal_line }
