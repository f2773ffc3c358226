-- What reading a slots part answers.
use Rattle.std.specs.Prelude.{◌≡◌, ℕ, List, Result, Ok, Err, drop}
use Rattle.texts.specs.Lines.{lines_of}
use Rattle.sync_types.specs.declared.answers.Rule.{Rule}
use Rattle.construction.specs.Plans.{Plan, plan_nodes, plan_modulus}
use Rattle.slot_table.specs.declared.lines.SlotLine.{SlotLine}
use Rattle.edge_io.specs.declared.taking.PartError.{PartError}
use Rattle.slot_table.specs.SlotPart.{part_for}
use Rattle.edge_io.specs.Taking.{FailsAsDefined}

-- the part that is defined for so many nodes and outputs below that modulus stands at the beginning
-- of the input, in so many bytes and lines
abbrev pub IsAnswerFor : (nodes modulus number : ℕ) → (input : List ℕ)
    → Result (List SlotLine × ℕ × ℕ) (PartError Rule) → Type 0
IsAnswerFor nodes modulus number input (Ok read) = part_for nodes modulus number (lines_of input)
    ≡ Ok (record { value = read.0; taken = read.2; behind = lines_of (drop read.1 input) })
IsAnswerFor nodes modulus number input (Err error) =
    FailsAsDefined error (part_for nodes modulus number (lines_of input))

-- that of a plan
abbrev pub IsAnswer : Plan → (number : ℕ) → (input : List ℕ)
    → Result (List SlotLine × ℕ × ℕ) (PartError Rule) → Type 0
IsAnswer plan number input result =
    IsAnswerFor (plan_nodes plan) (plan_modulus plan) number input result
