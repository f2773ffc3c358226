-- What is written of a front: a line for each plan, with its numbers and its text; or the text of
-- the last plan alone.
use Rattle.std.specs.Prelude.{◌≡◌, ℕ, ◌-◌, List, [], ◌∷◌, ◌++◌, map, reverse, length, codes}
use Rattle.std.specs.Prelude.{decimal}
use Rattle.std.specs.Prelude.{◌==◌, if◌then◌else◌, Option, Some, None, Ok}
use Rattle.std.specs.Int.{div_ceil}
use Rattle.std.specs.List.{concat, flat_map, slice_get}
use Rattle.construction.specs.Plans.{Level, Plan, plan_nodes, plan_bound, plan_bits, plan_depth}
use Rattle.plan_numbers.specs.Premises.{IsAccepted}
use Rattle.plan_reader.specs.PlanPart.{whole_plan_of}
use Rattle.plan_reader.specs.PlanTexts.{plan_text}

-- the bytes are those that a state's bits fill, the last one perhaps in part
abbrev pub numbers_part : Plan → List ℕ
numbers_part plan = concat (
    codes "nodes " ∷ decimal (plan_nodes plan)
    ∷ codes " bound " ∷ decimal (plan_bound plan)
    ∷ codes " bytes " ∷ decimal (div_ceil (plan_bits plan) 8)
    ∷ codes " levels " ∷ decimal (plan_depth plan)
    ∷ codes " " ∷ [])

abbrev pub base_part : Plan → List ℕ
base_part plan = concat (codes "plan 2;base " ∷ decimal plan.base ∷ codes ";" ∷ [])

abbrev pub level_part : Level → List ℕ
level_part level = concat (
    codes "level " ∷ decimal level.blocks
    ∷ codes " " ∷ decimal level.faults
    ∷ codes " " ∷ decimal level.modulus
    ∷ codes " spare " ∷ decimal level.spares
    ∷ codes ";" ∷ [])

-- the levels, the lowest first
abbrev pub levels_part : Plan → List ℕ
levels_part plan = flat_map level_part (reverse plan.levels)

abbrev pub plan_part : Plan → List ℕ
plan_part plan = concat (base_part plan ∷ levels_part plan ∷ codes "end\n" ∷ [])

-- the line of a plan
abbrev pub front_line : Plan → List ℕ
front_line plan = numbers_part plan ++ plan_part plan

abbrev pub none_line : List ℕ
none_line = codes "none\n"

abbrev pub front_text : List Plan → List ℕ
front_text [] = none_line
front_text (plan ∷ plans) = flat_map front_line (plan ∷ plans)

-- the text of a plan, if there is one
abbrev pub text_if : Option Plan → List ℕ
text_if None = none_line
text_if (Some plan) = plan_text 2 plan

-- the text of the last plan
abbrev pub last_plan_text : List Plan → List ℕ
last_plan_text plans = text_if (slice_get plans (length plans - 1))

-- a text with a newline in place of each semicolon
abbrev pub in_lines : List ℕ → List ℕ
in_lines text = map (λ byte. if byte == 59 then 10 else byte) text

-- The text of an accepted plan of version 2 is read as that plan. It is also what a line says of
-- the plan, with a newline in place of each semicolon.
abbrev pub TextsArePlans : Type 0
TextsArePlans =
    (plan : Plan) → IsAccepted plan → plan.version ≡ 2
    → (whole_plan_of (plan_text 2 plan) ≡ Ok plan) × (in_lines (plan_part plan) ≡ plan_text 2 plan)
