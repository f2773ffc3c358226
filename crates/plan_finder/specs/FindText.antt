-- What the word `find` writes: the text of the plan, or `none`, and a line for each pair.
use Rattle.std.specs.Prelude.{ℕ, List, [], ◌∷◌, ◌++◌, Option, Some, None, codes, decimal}
use Rattle.std.specs.List.{concat, flat_map}
use Rattle.construction.specs.Plans.{Plan}
use Rattle.plan_reader.specs.PlanTexts.{plan_text}
use Rattle.plan_finder.specs.declared.pots.Pot.{Pot}

abbrev pub plan_or_none : Option Plan → List ℕ
plan_or_none (Some plan) = plan_text 1 plan
plan_or_none None = codes "none\n"

abbrev pub pot_line : Pot → List ℕ
pot_line pot = concat (
    codes "pot " ∷ decimal pot.nodes
    ∷ codes " " ∷ decimal pot.faults
    ∷ codes " " ∷ decimal pot.value
    ∷ codes "\n" ∷ [])

abbrev pub find_text : Option Plan → List Pot → List ℕ
find_text plan pots = plan_or_none plan ++ flat_map pot_line pots
