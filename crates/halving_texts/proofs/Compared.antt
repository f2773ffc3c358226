-- What a text is compared with stands in the buffer.
use Rattle.std.proofs.Common.{◌≡◌, ℕ, List, Option, Some, ap, ◌∙◌}
use Rattle.texts.specs.Lines.{lines_of}
use Rattle.halving_plan.specs.Plans.{HalvingNumbers}
use Rattle.halving_texts.specs.Tables.{table_text}
use Rattle.halving_texts.specs.Reading.{differs_at, stated_in, unless_differs, compared, table_of}

-- the table that is defined, if the second line states a plan and the first difference is known
pub compared_is : (text : List ℕ) (plan : HalvingNumbers) (line : Option ℕ)
    → stated_in (lines_of text) ≡ Some plan → differs_at 1 text (table_text plan) ≡ line
    → table_of text ≡ unless_differs line plan
compared_is text plan line states differs =
    ap (compared text) states ∙ ap (λ (l : Option ℕ). unless_differs l plan) differs
