-- A table and its plan: each gives the other.
use Rattle.std.specs.Prelude.{◌≡◌, ℕ, List, Ok}
use Rattle.halving_plan.specs.Plans.{HalvingNumbers, IsAccepted}
use Rattle.halving_texts.specs.Tables.{table_text}
use Rattle.halving_texts.specs.Reading.{table_of}

-- the table of an accepted plan is read as that plan
abbrev pub TablesAreRead : Type 0
TablesAreRead = (plan : HalvingNumbers) → IsAccepted plan → table_of (table_text plan) ≡ Ok plan

-- and no other text is
abbrev pub OnlyTablesAreRead : Type 0
OnlyTablesAreRead =
    (text : List ℕ) (plan : HalvingNumbers) → table_of text ≡ Ok plan
    → IsAccepted plan × (text ≡ table_text plan)
