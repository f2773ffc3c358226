-- The text of a log part, which is read back.
use Rattle.std.specs.Prelude.{◌≡◌, ℕ, ◌+◌, ◌≤◌, List, [], ◌∷◌, ◌++◌, length, map, All, Ok, codes}
use Rattle.std.specs.Prelude.{decimal}
use Rattle.texts.specs.Lines.{lines_of}
use Rattle.texts.specs.Words.{joined, text_of}
use Rattle.construction.specs.Plans.{Plan}
use Rattle.plan_numbers.specs.Premises.{IsAccepted}
use Rattle.layer_laws.specs.Numbers.{Numbers, AreNumbers, numbers_of}
use Rattle.replicated_log.specs.LogContent.{LogContent}
use Rattle.replicated_log.specs.LogPart.{part_over, IsForNumbers}

abbrev pub values_line : LogContent → List ℕ
values_line said = joined (codes "values" ∷ decimal said.values ∷ [])

abbrev pub keep_line : LogContent → List ℕ
keep_line said = joined (codes "keep" ∷ decimal said.keep ∷ [])

-- what node v commands
abbrev pub commands_line : (v : ℕ) → (own : List ℕ) → List ℕ
commands_line v own = joined (codes "commands" ∷ decimal v ∷ map decimal own)

-- what the nodes from v on command
abbrev pub commands_lines : (v : ℕ) → (commands : List (List ℕ)) → List (List ℕ)
commands_lines v [] = []
commands_lines v (own ∷ commands) = commands_line v own ∷ commands_lines (v + 1) commands

-- the part that says a log
abbrev pub log_text : LogContent → List ℕ
log_text said =
    text_of (codes "log 1" ∷ values_line said ∷ keep_line said
    ∷ (commands_lines 0 said.commands ++ codes "end" ∷ []))

-- The text of a log for a counter, whose nodes have at most 16 commands each, is read as this log,
-- whatever text follows.
abbrev pub IsReadBack : Numbers → Type 0
IsReadBack numbers = (said : LogContent) → IsForNumbers numbers said
    → All (λ own. length own ≤ 16) said.commands → (number : ℕ) (rest : List ℕ)
    → part_over numbers number (lines_of (log_text said ++ rest))
    ≡ Ok (record {
      value = said;
      taken = 3 + (length said.commands + 1);
      behind = lines_of rest;
    })

abbrev pub LogTextIsReadOver : Type 0
LogTextIsReadOver = (numbers : Numbers) → AreNumbers numbers → IsReadBack numbers

-- So is that for an accepted plan.
abbrev pub LogTextIsRead : Type 0
LogTextIsRead = (plan : Plan) → IsAccepted plan → IsReadBack (numbers_of plan)
