-- A slot table as a part for a counter. States have no registers for it.
use Rattle.std.specs.Prelude.{ℕ, List, Option, None, Result}
use Rattle.texts.specs.Parts.{At, Found}
use Rattle.sync_types.specs.declared.answers.Rule.{Rule}
use Rattle.layer_laws.specs.Numbers.{Numbers}
use Rattle.slot_table.specs.declared.lines.SlotLine.{SlotLine}
use Rattle.slot_table.specs.SlotPart.{part_for, IsTable}
use Rattle.layer_parts.specs.declared.registers.Registers.{Registers}

abbrev pub slots_over : Numbers → (number : ℕ) → List (List ℕ)
    → Result (Found (List SlotLine)) (At Rule)
slots_over numbers number lines = part_for numbers.nodes numbers.modulus number lines

abbrev pub no_registers : List SlotLine → Option Registers
no_registers table = None

abbrev pub AreForNumbers : Numbers → List SlotLine → Type 0
AreForNumbers numbers table = IsTable numbers.nodes numbers.modulus table
