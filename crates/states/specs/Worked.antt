-- Worked values: an input with its text, letter by letter, and inputs of which a line is refused.
use Rattle.std.specs.Prelude.{◌≡◌, ℕ, List, ◌++◌, Ok, Err, codes}
use Rattle.states.specs.Inputs.{states_text}
use Rattle.states.specs.declared.faults.Fault.{Fault}
use Rattle.states.specs.declared.faults.Fault.TheVariants as fault
use Rattle.states.specs.declared.reasons.StateReason.TheVariants as reason

-- three nodes in blocks of one, a spare one, and one register of a layer
abbrev pub front : List ℕ
front = codes "plan 2\nbase 576\nlevel 3 1 960 spare 1\nend\nvalues 5\n"

-- with one line more, that one is refused for this
abbrev pub IsRefusedFor : (line : List ℕ) → Fault → Type 0
IsRefusedFor line why =
    states_text (front ++ line ++ codes "\n") ≡ Err (reason.Line 6 why)

-- States of a node in a block and of the spare one, from words and from digits, with a skipped
-- line: digits are bits of the number, of each value and of each mark. And a line for each fault.
pub record StatesAreSpelled : Type 0 where
  pub turned : states_text (front
      ++ codes "node 0 number 5 registers 600 marked, infinite\n# and back\nnode 3 960e\n")
      ≡ Ok (codes "node 0 01658d00\nnode 3 registers 600, 3 marked\n")
  pub form : IsRefusedFor (codes "node 0 960e 00") fault.Form
  pub node : IsRefusedFor (codes "node 4 960e") fault.Node
  pub digits : IsRefusedFor (codes "node 3 960E") (fault.Hex 4)
  pub fields : IsRefusedFor (codes "node 3 number 5 registers 600, 3 marked") fault.Fields
  pub range : IsRefusedFor (codes "node 3 registers 600, 5") fault.Fields
