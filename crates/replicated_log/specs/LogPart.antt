-- The log part of an input: `log 1`, `values V`, `keep K`, a line `commands v c0 c1 ..` for each
-- node v in order, `end`.
use Rattle.std.specs.Prelude.{◌≡◌, ℕ, ◌*◌, ◌<◌, ◌≤◌, ◌%◌, ◌==◌, nat_lt, not, Bool}
use Rattle.std.specs.Prelude.{List, [], ◌∷◌, ◌++◌, length, All, Option, Some, None}
use Rattle.std.specs.Prelude.{Result, Ok, Err, if◌then◌else◌, codes}
use Rattle.std.specs.List.{list_all}
use Rattle.std.specs.Str.{bytes_eq}
use Rattle.texts.specs.Lines.{words_of}
use Rattle.texts.specs.Shapes.{all_numbers_after}
use Rattle.texts.specs.Parts.{Next, ends, refuses, goes_on, with_skips, Found, At, part_from}
use Rattle.sync_types.specs.declared.answers.Rule.{Rule}
use Rattle.sync_types.specs.declared.answers.Rule.TheVariants.{Form, Limit, Node, Range}
use Rattle.construction.specs.Plans.{Plan}
use Rattle.layer_laws.specs.Numbers.{Numbers, numbers_of as plan_numbers}
use Rattle.consensus_layer.specs.PartLines.{head_tested, number_within}
use Rattle.replicated_log.specs.EntryLength.{entry_length}
use Rattle.replicated_log.specs.LogContent.{LogContent}
use Rattle.replicated_log.specs.declared.log_lines.LogStage.{LogStage}
use Rattle.replicated_log.specs.declared.log_lines.LogStage.TheVariants.{Unread, Begun, Valued}
use Rattle.replicated_log.specs.declared.log_lines.LogStage.TheVariants.{Keeping}

-- how many nodes there are, whether the modulus is a multiple of an entry of each node, how far the
-- part was read, and the commands of as many nodes as have their line
pub record LogSoFar : Type 0 where
  pub nodes : ℕ
  pub whole : Bool
  pub stage : LogStage
  pub commands : List (List ℕ)

-- a part for a counter of which nothing was read
abbrev pub nothing_read_over : Numbers → LogSoFar
nothing_read_over numbers = record {
  nodes = numbers.nodes;
  whole = numbers.modulus % (numbers.nodes * entry_length numbers.faults) == 0;
  stage = Unread;
  commands = [];
}

-- the commands of the next node, of which there are so many nodes before it, or the first rule that
-- the line's numbers fail
abbrev pub commands_tested : (values before : ℕ) → Option (List ℕ) → Result (List ℕ) Rule
commands_tested values before (Some (v ∷ c ∷ cs)) =
    if nat_lt 16 (length (c ∷ cs)) then Err Limit
    else if not (v == before) then Err Node
    else if not (list_all (λ a. nat_lt a values) (c ∷ cs)) then Err Range
    else Ok (c ∷ cs)
commands_tested values before other = Err Form

-- `commands v c0 c1 ..`, if a node is left that has no line yet
abbrev pub commands_in : (values nodes before : ℕ) → List ℕ → Result (List ℕ) Rule
commands_in values nodes before line =
    if nat_lt before nodes
    then commands_tested values before (all_numbers_after (codes "commands") (words_of line))
    else Err Form

-- the part at a stage
abbrev pub at_stage : LogSoFar → LogStage → LogSoFar
at_stage s stage = record s { stage = stage }

-- the commands of one more node
abbrev pub with_own : LogSoFar → List ℕ → LogSoFar
with_own s own = record s { commands = s.commands ++ own ∷ [] }

-- `end`, if each node has its line
abbrev pub end_step : (values keep : ℕ) → LogSoFar → Next LogSoFar LogContent Rule
end_step values keep s =
    if nat_lt (length s.commands) s.nodes then refuses Form
    else ends (record { values = values; keep = keep; commands = s.commands })

-- a line after those that were read
abbrev pub step_at : LogStage → LogSoFar → List ℕ → Next LogSoFar LogContent Rule
step_at Unread s line =
    goes_on (λ _. at_stage s Begun) (head_tested (codes "log 1") s.whole line)
step_at Begun s line =
    goes_on (λ values. at_stage s (Valued values)) (number_within (codes "values") 2 65536 line)
step_at (Valued values) s line =
    goes_on (λ keep. at_stage s (Keeping values keep)) (number_within (codes "keep") 1 1024 line)
step_at (Keeping values keep) s line =
    if bytes_eq line (codes "end") then end_step values keep s
    else goes_on (with_own s) (commands_in values s.nodes (length s.commands) line)

abbrev pub log_step : LogSoFar → List ℕ → Next LogSoFar LogContent Rule
log_step s line = step_at s.stage s line

-- The log part for a counter at the beginning of these lines, of which the first has that number:
-- what it says, how many lines it took through `end`, and the lines after it; or the first line
-- that fails, with the first rule that it fails.
abbrev pub part_over : Numbers → (number : ℕ) → List (List ℕ) → Result (Found LogContent) (At Rule)
part_over numbers number lines =
    part_from (with_skips log_step Form) Form (nothing_read_over numbers) 0 number lines

-- those for the counter of a plan
abbrev pub nothing_read : Plan → LogSoFar
nothing_read plan = nothing_read_over (plan_numbers plan)

abbrev pub part_of : Plan → (number : ℕ) → List (List ℕ) → Result (Found LogContent) (At Rule)
part_of plan = part_over (plan_numbers plan)

-- each node has a command, and each command is below the values
abbrev pub AreInRange : (values : ℕ) → List (List ℕ) → Type 0
AreInRange values commands =
    All (λ own. (0 < length own) × All (λ a. a < values) own) commands

-- what a log part says that was read for a counter
pub record IsForNumbers (numbers : Numbers) (said : LogContent) : Type 0 where
  pub whole : numbers.modulus % (numbers.nodes * entry_length numbers.faults) ≡ 0
  pub two : 2 ≤ said.values
  pub few : said.values ≤ 65536
  pub some : 1 ≤ said.keep
  pub short : said.keep ≤ 1024
  pub nodes : length said.commands ≡ numbers.nodes
  pub range : AreInRange said.values said.commands

-- that for the counter of a plan
abbrev pub IsLogForPlan : Plan → LogContent → Type 0
IsLogForPlan plan = IsForNumbers (plan_numbers plan)
