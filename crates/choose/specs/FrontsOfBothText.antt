-- What is written of the front of both constructions: the line of its plan, with its numbers and
-- its text, or the text of that plan.
use Rattle.std.specs.Prelude.{◌≡◌, ℕ, List, [], ◌∷◌, ◌++◌, Option, Some, None, Ok, codes, decimal}
use Rattle.std.specs.List.{concat}
use Rattle.halving_plan.specs.Trees.{tree_bound}
use Rattle.halving_plan.specs.Plans.{HalvingNumbers, IsAccepted, tree_of}
use Rattle.halving_plan.specs.Sizes.{state_bytes, levels_of}
use Rattle.halving_texts.specs.HalvingPart.{whole_halving_of}
use Rattle.halving_texts.specs.HalvingTexts.{halving_text}
use Rattle.plan_reader.specs.PlanTexts.{plan_text}
use Rattle.choose.specs.declared.any_plans.AnyPlan.{AnyPlan}
use Rattle.choose.specs.declared.any_plans.AnyPlan.TheVariants.{Boosting, Halving}
use Rattle.choose.specs.FrontText.{front_line, none_line, in_lines}

-- the bytes are those of the node's state that has most
abbrev pub halving_numbers_part : HalvingNumbers → List ℕ
halving_numbers_part plan = concat (
    codes "nodes " ∷ decimal plan.nodes
    ∷ codes " bound " ∷ decimal (tree_bound (tree_of plan))
    ∷ codes " bytes " ∷ decimal (state_bytes plan)
    ∷ codes " levels " ∷ decimal (levels_of plan)
    ∷ codes " " ∷ [])

abbrev pub halving_line_part : HalvingNumbers → List ℕ
halving_line_part plan = concat (
    codes "halving 1;group " ∷ decimal plan.nodes
    ∷ codes " " ∷ decimal plan.faults
    ∷ codes " " ∷ decimal plan.modulus
    ∷ codes ";end\n" ∷ [])

-- the line of a plan
abbrev pub any_line : AnyPlan → List ℕ
any_line (Boosting plan) = front_line plan
any_line (Halving plan) = halving_numbers_part plan ++ halving_line_part plan

-- the text of a plan
abbrev pub any_text : AnyPlan → List ℕ
any_text (Boosting plan) = plan_text 2 plan
any_text (Halving plan) = halving_text plan

-- the line of the plan, if there is one
abbrev pub both_front_text : Option AnyPlan → List ℕ
both_front_text None = none_line
both_front_text (Some plan) = any_line plan

-- the text of the plan, if there is one
abbrev pub both_plan_text : Option AnyPlan → List ℕ
both_plan_text None = none_line
both_plan_text (Some plan) = any_text plan

-- The text of an accepted halving plan is read as that plan. It is also what a line says of the
-- plan, with a newline in place of each semicolon.
abbrev pub HalvingTextsArePlans : Type 0
HalvingTextsArePlans =
    (plan : HalvingNumbers) → IsAccepted plan
    → (whole_halving_of (halving_text plan) ≡ Ok plan)
    × (in_lines (halving_line_part plan) ≡ halving_text plan)
