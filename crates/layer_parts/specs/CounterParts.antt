-- What holds of a part that is read for a counter.
use Rattle.std.specs.Prelude.{ℕ, ◌≤◌, List, Option, Result, IfOk, IfSome}
use Rattle.texts.specs.Parts.{At, Found}
use Rattle.sync_types.specs.declared.answers.Rule.{Rule}
use Rattle.layer_laws.specs.Numbers.{Numbers}
use Rattle.layer_parts.specs.declared.registers.Registers.{Registers}

-- at most two registers, of 2 to 65536 values
pub record AreFew (registers : Registers) : Type 0 where
  pub least : 2 ≤ registers.values
  pub most : registers.values ≤ 65536
  pub few : registers.count ≤ 2

-- what is read is for the counter, and its registers are few
pub record IsSoundPart {Content : Type 0}
    (part_over : Numbers → (number : ℕ) → List (List ℕ) → Result (Found Content) (At Rule))
    (registers : Content → Option Registers) (Fits : Numbers → Content → Type 0) : Type 0 where
  pub fits : (numbers : Numbers) (number : ℕ) (lines : List (List ℕ))
      → IfOk (part_over numbers number lines) (λ found. Fits numbers found.value)
  pub few : (numbers : Numbers) (said : Content) → Fits numbers said
      → IfSome (registers said) AreFew
