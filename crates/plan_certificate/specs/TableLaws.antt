-- A table text and its plan: each gives the other.
use Rattle.std.specs.Prelude.{◌≡◌, ℕ, List, Ok}
use Rattle.construction.specs.Plans.{Plan}
use Rattle.plan_numbers.specs.Premises.{IsAccepted}
use Rattle.plan_certificate.specs.Tables.{table_text}
use Rattle.plan_certificate.specs.TableLines.{table_of}

-- the table text of an accepted plan is read as that plan
abbrev pub TablesAreRead : Type 0
TablesAreRead = (plan : Plan) → IsAccepted plan → table_of (table_text plan) ≡ Ok plan

-- and no other text is
abbrev pub OnlyTablesAreRead : Type 0
OnlyTablesAreRead =
    (text : List ℕ) (plan : Plan) → table_of text ≡ Ok plan
    → IsAccepted plan × (text ≡ table_text plan)
