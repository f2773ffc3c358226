-- The text of a plan in a version, which a reader of plans reads back.
use Rattle.std.specs.Prelude.{◌≡◌, ℕ, ◌+◌, ◌≤◌, List, [], ◌∷◌, ◌++◌, reverse, Ok, codes, decimal}
use Rattle.std.specs.List.{concat, flat_map}
use Rattle.texts.specs.Lines.{lines_of}
use Rattle.construction.specs.Plans.{Level, Plan, plan_depth}
use Rattle.plan_numbers.specs.Premises.{IsAccepted}
use Rattle.plan_reader.specs.PlanPart.{plan_of, whole_plan_of}
use Rattle.plan_reader.specs.TextLines.{version_line, base_line, spares_end}

-- the numbers of a level that stand in each version
abbrev pub level_words : Level → List ℕ
level_words level = concat (
    codes "level " ∷ decimal level.blocks
    ∷ codes " " ∷ decimal level.faults
    ∷ codes " " ∷ decimal level.modulus ∷ [])

-- the line that states a level
abbrev pub level_text : (version : ℕ) → Level → List ℕ
level_text version level = level_words level ++ spares_end version level.spares

-- the lines that state the levels, the lowest first
abbrev pub level_texts : (version : ℕ) → Plan → List ℕ
level_texts version plan = flat_map (level_text version) (reverse plan.levels)

abbrev pub plan_text : (version : ℕ) → Plan → List ℕ
plan_text version plan = concat (
    version_line (codes "plan ") version
    ∷ base_line plan.base
    ∷ level_texts version plan
    ∷ codes "end\n" ∷ [])

-- the plan, as a text of that version states it
abbrev pub in_version : (version : ℕ) → Plan → Plan
in_version version plan = record plan { version = version }

-- The text of an accepted plan, in its own version or a later one, is read as that plan, at the
-- beginning of any text.
abbrev pub PlanTextIsRead : Type 0
PlanTextIsRead =
    (plan : Plan) (version : ℕ) (rest : List ℕ)
    → IsAccepted plan → plan.version ≤ version → version ≤ 2
    → plan_of (plan_text version plan ++ rest)
    ≡ Ok (record {
      value = in_version version plan;
      taken = plan_depth plan + 3;
      behind = lines_of rest;
    })

-- and alone
abbrev pub PlanTextIsWhole : Type 0
PlanTextIsWhole =
    (plan : Plan) (version : ℕ) → IsAccepted plan → plan.version ≤ version → version ≤ 2
    → whole_plan_of (plan_text version plan) ≡ Ok (in_version version plan)
