-- The slots part of an input: `slots 1`, at most 256 lines `slot V A B`, `end`.
use Rattle.std.specs.Prelude.{ℕ, ◌<◌, ◌≤◌, ◌||◌, nat_le, nat_lt, Bool, true, false, List, [], ◌∷◌}
use Rattle.std.specs.Prelude.{◌++◌, length, All, Option, Some, Result, Ok, Err, if◌then◌else◌}
use Rattle.std.specs.Prelude.{codes}
use Rattle.std.specs.List.{list_any}
use Rattle.std.specs.Str.{bytes_eq}
use Rattle.texts.specs.Lines.{words_of}
use Rattle.texts.specs.Shapes.{numbers_after}
use Rattle.texts.specs.Parts.{Next, goes, ends, refuses, goes_on, with_skips, Found, At}
use Rattle.texts.specs.Parts.{part_from}
use Rattle.sync_types.specs.declared.answers.Rule.{Rule}
use Rattle.sync_types.specs.declared.answers.Rule.TheVariants.{Form, Limit, Node, Range, Overlap}
use Rattle.construction.specs.Plans.{Plan, plan_nodes, plan_modulus}
use Rattle.slot_table.specs.declared.lines.SlotLine.{SlotLine}
use Rattle.slot_table.specs.Tables.{meets, AreApart}

-- how many nodes there are, the modulus of their outputs, whether the first line was read, and the
-- table's lines after it
pub record SlotsSoFar : Type 0 where
  pub nodes : ℕ
  pub modulus : ℕ
  pub begun : Bool
  pub lines : List SlotLine

-- a part of which nothing was read, for so many nodes and outputs below that modulus
abbrev pub no_lines : (nodes modulus : ℕ) → SlotsSoFar
no_lines nodes modulus = record {
  nodes = nodes;
  modulus = modulus;
  begun = false;
  lines = [];
}

-- the line with these numbers, or the first rule that it fails
abbrev pub line_tested : SlotsSoFar → Option (List ℕ) → Result SlotLine Rule
line_tested s (Some (v ∷ a ∷ b ∷ [])) =
    if nat_le 256 (length s.lines) then Err Limit
    else if nat_le s.nodes v then Err Node
    else if nat_lt b a || nat_le s.modulus b then Err Range
    else if list_any (meets a b) s.lines then Err Overlap
    else Ok (record { node = v; first = a; last = b })
line_tested s other = Err Form

-- `slot V A B`
abbrev pub line_in : SlotsSoFar → List ℕ → Result SlotLine Rule
line_in s line = line_tested s (numbers_after (codes "slot") 3 (words_of line))

-- one more line
abbrev pub with_line : SlotsSoFar → SlotLine → SlotsSoFar
with_line s line = record s { lines = s.lines ++ line ∷ [] }

-- a line after those that were read
abbrev pub slots_step : SlotsSoFar → List ℕ → Next SlotsSoFar (List SlotLine) Rule
slots_step s line =
    if s.begun
    then (if bytes_eq line (codes "end") then ends s.lines
    else goes_on (with_line s) (line_in s line))
    else (if bytes_eq line (codes "slots 1") then goes (record s { begun = true })
    else refuses Form)

-- The slots part at the beginning of these lines, of which the first has that number: its table,
-- how many lines it took through `end`, and the lines after it; or the first line that fails, with
-- the first rule that it fails.
abbrev pub part_for : (nodes modulus number : ℕ) → List (List ℕ)
    → Result (Found (List SlotLine)) (At Rule)
part_for nodes modulus number lines =
    part_from (with_skips slots_step Form) Form (no_lines nodes modulus) 0 number lines

-- a line is of one of so many nodes and of outputs below that modulus
pub record IsLineFor (nodes modulus : ℕ) (line : SlotLine) : Type 0 where
  pub node : line.node < nodes
  pub order : line.first ≤ line.last
  pub output : line.last < modulus

-- what holds of the lines of a table that was read for these
pub record IsTable (nodes modulus : ℕ) (lines : List SlotLine) : Type 0 where
  pub many : length lines ≤ 256
  pub each : All (IsLineFor nodes modulus) lines
  pub apart : AreApart lines

-- ---- the same for the nodes and outputs of a plan

abbrev pub nothing_read : Plan → SlotsSoFar
nothing_read plan = no_lines (plan_nodes plan) (plan_modulus plan)

abbrev pub part_of : Plan → (number : ℕ) → List (List ℕ) → Result (Found (List SlotLine)) (At Rule)
part_of plan number lines = part_for (plan_nodes plan) (plan_modulus plan) number lines

abbrev pub AreFor : Plan → List SlotLine → Type 0
AreFor plan lines = IsTable (plan_nodes plan) (plan_modulus plan) lines
