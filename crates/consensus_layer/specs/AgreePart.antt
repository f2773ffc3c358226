-- The agree part of an input: `agree 1`, `values V`, `inputs` and a number for each node, `end`.
use Rattle.std.specs.Prelude.{◌≡◌, ℕ, ◌<◌, ◌≤◌, ◌%◌, ◌==◌, nat_lt, not, Bool, List, [], ◌∷◌, length}
use Rattle.std.specs.Prelude.{All, Option, Some, None, Result, Ok, Err, if◌then◌else◌, codes}
use Rattle.std.specs.List.{list_all}
use Rattle.std.specs.Str.{bytes_eq}
use Rattle.texts.specs.Lines.{words_of}
use Rattle.texts.specs.Shapes.{all_numbers_after}
use Rattle.texts.specs.Parts.{Next, ends, refuses, goes_on, with_skips, Found, At, part_from}
use Rattle.sync_types.specs.declared.answers.Rule.{Rule}
use Rattle.sync_types.specs.declared.answers.Rule.TheVariants.{Form, Range}
use Rattle.construction.specs.Plans.{Plan}
use Rattle.layer_laws.specs.Numbers.{Numbers, numbers_of as numbers_of_plan}
use Rattle.layer_laws.specs.CounterSlots.{slot_length}
use Rattle.consensus_layer.specs.AgreeContent.{AgreeContent}
use Rattle.consensus_layer.specs.PartLines.{head_tested, number_within}
use Rattle.consensus_layer.specs.declared.agree_lines.AgreeStage.{AgreeStage}
use Rattle.consensus_layer.specs.declared.agree_lines.AgreeStage.TheVariants.{Unread, Begun, Valued}
use Rattle.consensus_layer.specs.declared.agree_lines.AgreeStage.TheVariants.{Given}

-- how many nodes there are, whether the modulus is a multiple of a slot's length, how far the part
-- was read, and the inputs
pub record AgreeSoFar : Type 0 where
  pub nodes : ℕ
  pub whole : Bool
  pub stage : AgreeStage
  pub inputs : List ℕ

-- a part of which nothing was read, for a counter of these numbers
abbrev pub nothing_read_over : Numbers → AgreeSoFar
nothing_read_over numbers = record {
  nodes = numbers.nodes;
  whole = numbers.modulus % slot_length numbers.faults == 0;
  stage = Unread;
  inputs = [];
}

-- the inputs of so many nodes, or the first rule that the line's numbers fail
abbrev pub inputs_tested : (values nodes : ℕ) → Option (List ℕ) → Result (List ℕ) Rule
inputs_tested values nodes None = Err Form
inputs_tested values nodes (Some inputs) =
    if not (length inputs == nodes) then Err Form
    else if not (list_all (λ a. nat_lt a values) inputs) then Err Range
    else Ok inputs

-- `inputs a0 a1 ..`
abbrev pub inputs_in : (values nodes : ℕ) → List ℕ → Result (List ℕ) Rule
inputs_in values nodes line =
    inputs_tested values nodes (all_numbers_after (codes "inputs") (words_of line))

-- the part at a stage
abbrev pub at_stage : AgreeSoFar → AgreeStage → AgreeSoFar
at_stage s stage = record s { stage = stage }

-- the part with the inputs, after which nothing but its end is left
abbrev pub with_inputs : (values : ℕ) → AgreeSoFar → List ℕ → AgreeSoFar
with_inputs values s inputs = record s { stage = Given values; inputs = inputs }

-- a line after those that were read
abbrev pub step_at : AgreeStage → AgreeSoFar → List ℕ → Next AgreeSoFar AgreeContent Rule
step_at Unread s line =
    goes_on (λ _. at_stage s Begun) (head_tested (codes "agree 1") s.whole line)
step_at Begun s line =
    goes_on (λ values. at_stage s (Valued values)) (number_within (codes "values") 2 65536 line)
step_at (Valued values) s line = goes_on (with_inputs values s) (inputs_in values s.nodes line)
step_at (Given values) s line =
    if bytes_eq line (codes "end") then ends (record { values = values; inputs = s.inputs })
    else refuses Form

abbrev pub agree_step : AgreeSoFar → List ℕ → Next AgreeSoFar AgreeContent Rule
agree_step s line = step_at s.stage s line

-- The agree part at the beginning of these lines, of which the first has that number, for a counter
-- of these numbers: what it says, how many lines it took through `end`, and the lines after it; or
-- the first line that fails, with the first rule that it fails.
abbrev pub part_over : Numbers → (number : ℕ) → List (List ℕ)
    → Result (Found AgreeContent) (At Rule)
part_over numbers number lines =
    part_from (with_skips agree_step Form) Form (nothing_read_over numbers) 0 number lines

-- what an agree part says that was read for a counter of these numbers
pub record IsForNumbers (numbers : Numbers) (said : AgreeContent) : Type 0 where
  pub whole : numbers.modulus % slot_length numbers.faults ≡ 0
  pub two : 2 ≤ said.values
  pub few : said.values ≤ 65536
  pub nodes : length said.inputs ≡ numbers.nodes
  pub range : All (λ a. a < said.values) said.inputs

-- ---- for the counter of a plan

abbrev pub nothing_read : Plan → AgreeSoFar
nothing_read plan = nothing_read_over (numbers_of_plan plan)

abbrev pub part_of : Plan → (number : ℕ) → List (List ℕ) → Result (Found AgreeContent) (At Rule)
part_of plan = part_over (numbers_of_plan plan)

abbrev pub IsAgreeForPlan : Plan → AgreeContent → Type 0
IsAgreeForPlan plan = IsForNumbers (numbers_of_plan plan)
